use Rattle.std.proofs.Common.{None}
use Rattle.nest_order.specs.Parts.{flat}
use Rattle.nest_order.proofs.ActNumbers.{later_part}
use Rattle.nest_order.proofs.nest.fault_keys.Goals as goal

pub returns : goal.returns
returns g c interpretation row items i = later_part interpretation row i (flat (items i) None 0)
