use Rattle.std.proofs.Common.{refl}
use Rattle.nest_order.proofs.Examples.{least_fault}
use Rattle.nest_order.proofs.example.example_faults.Goals as goal

pub returns-clause-plain : goal.returns-clause-plain
returns-clause-plain c = refl

pub returns-clause-later : goal.returns-clause-later
returns-clause-later c = refl

pub returns-clause-least : goal.returns-clause-least
returns-clause-least c = least_fault
