use Rattle.std.proofs.Common.{refl, ap, set, FitsSigned, w64, rules}
use Rattle.std.proofs.lemmas.Int.{to_z-of_z}
use Rattle.serial_run.proofs.IndexTuples.{step_is}
use Rattle.serial_run.proofs.index_tuples.step_first.Goals as goal

pub returns : goal.returns
returns c =
    let fits : FitsSigned w64 c.sum-next.result.value = search rules in
    step_is c.args.axes.now c.args.t c.args.x.now _ c.index.result.now c.sum-next.result.value _ c.requires.next c.requires.tuple c.index.ensures c.sum-next.ensures refl
    (ap (set c.args.x.now.values.items 0) (to_z-of_z w64 c.sum-next.result.value fits))
