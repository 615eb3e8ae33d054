use Rattle.nest_order.proofs.Numbering.{in_order}
use Rattle.nest_order.proofs.nest_index.nested_loops.Goals as goal

pub returns : goal.returns
returns g c = in_order
