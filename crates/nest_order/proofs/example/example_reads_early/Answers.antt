use Rattle.std.proofs.Common.{◌≡◌, false, true, refl, arith}
use Rattle.nest_order.specs.Copies.{scalar_at}
use Rattle.nest_order.proofs.example.example_reads_early.Goals as goal

pub returns-clause-scalars : goal.returns-clause-scalars
returns-clause-scalars c = refl

pub returns-clause-copies : goal.returns-clause-copies
returns-clause-copies c = refl

pub returns-clause-early : goal.returns-clause-early
returns-clause-early c = λ late. let z : false ≡ true = late.0 (scalar_at 2) (0, omega arith, refl) refl in cc
