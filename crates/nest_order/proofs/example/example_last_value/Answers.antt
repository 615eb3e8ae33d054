use Rattle.std.proofs.Common.{refl}
use Rattle.std.specs.Int.{int_wrap}
use Rattle.nest_order.proofs.example.example_last_value.Goals as goal

pub returns-clause-plain : goal.returns-clause-plain
returns-clause-plain c = refl

pub returns-clause-copied : goal.returns-clause-copied
returns-clause-copied c = refl

pub returns-clause-loops : goal.returns-clause-loops
unfolding int_wrap
returns-clause-loops c = refl
