use Rattle.std.proofs.Common.{refl, arith, []}
use Rattle.array_meaning.specs.Iterations.{at_iteration}
use Rattle.nest_machine.proofs.Slots.{same-refl}
use Rattle.nest_join.proofs.InnerIndices.{after-block}
use Rattle.nest_join.proofs.promises.inner_indices.Goals as goal

pub returns : goal.returns
returns c w at entry s body ok i z holds outside room many as_before k lt is =
    after-block w at.line at.slot entry s holds outside i [] body ok (at_iteration w.nest s i) at.slot entry (omega arith)
    (record { same = same-refl w.is_index at.slot entry; state = refl; off = tt }) room z many as_before k lt is
