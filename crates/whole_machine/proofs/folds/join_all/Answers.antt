use Rattle.std.proofs.Common.{pos, drop, get_or, w64, SFits, sym, ◌+◌, ◌∙◌, ap, rules}
use Rattle.std.proofs.lemmas.Int.{to_z-of_z}
use Rattle.std.proofs.lemmas.List.{drop_more}
use Rattle.std.specs.List.{fold}
use Rattle.op_tables.specs.Joins.{join}
use Rattle.whole_machine.proofs.folds.join_all.Goals as goal

pub loop-value-preserved : goal.loop-value-preserved
loop-value-preserved c =
    let op = c.args.op in
    let values = c.args.values.now in
    let at = c.loop-value.value-index in
    let fits : SFits w64 (get_or values at (pos 0)) = search rules in
    ap (λ v. fold (join op) v (drop (at + 1) values)) c.add.ensures
    ∙ ap (λ v. fold (join op) (join op c.loop-value.so_far.value v) (drop (at + 1) values)) (to_z-of_z w64 (get_or values at (pos 0)) fits)
    ∙ ap (fold (join op) c.loop-value.so_far.value) (sym (drop_more values at (pos 0) c.loop-value-test.true))
    ∙ c.loop-value.invariant
