use Rattle.std.proofs.Common.{refl}
use Rattle.std.specs.Int.{int_wrap}
use Rattle.nest_order.proofs.example.example_finishes.Goals as goal

pub returns-clause-plain : goal.returns-clause-plain
unfolding int_wrap
returns-clause-plain c = refl

pub returns-clause-parted : goal.returns-clause-parted
unfolding int_wrap
returns-clause-parted c = refl
