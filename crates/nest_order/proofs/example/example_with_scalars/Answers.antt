use Rattle.std.proofs.Common.{refl}
use Rattle.std.specs.Int.{int_wrap}
use Rattle.nest_order.proofs.ExampleScalars.{may_copy}
use Rattle.nest_order.proofs.example.example_with_scalars.Goals as goal

pub returns-clause-may_copy : goal.returns-clause-may_copy
returns-clause-may_copy c = may_copy

pub returns-clause-scalars : goal.returns-clause-scalars
unfolding int_wrap
returns-clause-scalars c = refl

pub returns-clause-copies : goal.returns-clause-copies
unfolding int_wrap
returns-clause-copies c = refl
