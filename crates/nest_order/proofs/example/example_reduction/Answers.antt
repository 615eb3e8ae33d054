use Rattle.std.proofs.Common.{refl}
use Rattle.std.specs.Int.{int_wrap}
use Rattle.nest_order.proofs.example.example_reduction.Goals as goal

pub returns-clause-copies : goal.returns-clause-copies
unfolding int_wrap
returns-clause-copies c = refl

pub returns-clause-plain : goal.returns-clause-plain
unfolding int_wrap
returns-clause-plain c = refl

pub returns-clause-joined : goal.returns-clause-joined
unfolding int_wrap
returns-clause-joined c = refl
