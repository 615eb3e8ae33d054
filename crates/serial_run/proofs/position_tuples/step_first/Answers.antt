use Rattle.std.proofs.Common.{refl, ap, set, w64, rules}
use Rattle.std.proofs.lemmas.Int.{to_z-of_z}
use Rattle.serial_run.proofs.PositionTuples.{step_is}
use Rattle.serial_run.proofs.position_tuples.step_first.Goals as goal

pub returns : goal.returns
returns c =
    step_is c.args.extents.now c.args.t c.args.x.now _ c.position_of-v.result c.requires.next c.requires.tuple refl c.position_of-v.ensures
    (ap (set c.args.x.now.values.items 0) (to_z-of_z w64 c.position_of-v.result (search rules)))
