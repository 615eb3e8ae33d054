use Rattle.std.proofs.Common.{◌≡◌, ◌<◌, pos, unsigned_abs, w64, IfOk, ap, ◌∙◌, subst, arith}
use Rattle.std.specs.Int.{int_rem_euclid}
use Rattle.std.proofs.lemmas.Int.{to_z-of_z}
use Rattle.serial_run.proofs.TransformedColumns.{turned_is}
use Rattle.serial_run.proofs.transformed_columns.shifted_columns.Goals as goal

pub returns : goal.returns
returns c =
    let some : 0 < c.args.n = omega arith in
    let by = c.turn-turn.ensures.value ∙ ap (λ k. unsigned_abs (int_rem_euclid k (pos c.args.n))) (to_z-of_z w64 c.args.by (record { sfits = c.ranges.by.sfits })) in
    subst (λ l. IfOk c.turned_columns.result (λ v. v.items ≡ l))
    (turned_is c.args.by c.args.n c.turn-turn.result some by c.args.elements.now c.requires.columns.0 c.args.count c.requires.columns.1)
    c.turned_columns.ensures
