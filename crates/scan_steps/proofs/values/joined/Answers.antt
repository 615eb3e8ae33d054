use Rattle.std.proofs.Common.{Some, pos, drop, get_or, map, w64, SFits, sym, ◌+◌, ◌∙◌, ap, rules}
use Rattle.std.proofs.lemmas.Int.{to_z-of_z}
use Rattle.std.proofs.lemmas.List.{drop_more}
use Rattle.std.specs.List.{fold}
use Rattle.machine_steps.specs.Node.{join_options}
use Rattle.op_tables.specs.Joins.{join}
use Rattle.scan_steps.proofs.values.joined.Goals as goal

pub loop-value-preserved : goal.loop-value-preserved
loop-value-preserved c =
    let op = c.args.op in
    let values = c.args.values.now in
    let at = c.loop-value.value-index in
    let fits : SFits w64 (get_or values at (pos 0)) = search rules in
    ap (λ v. fold (join_options (join op)) v (map Some (drop (at + 1) values))) c.add.ensures
    ∙ ap (λ v. fold (join_options (join op)) (join_options (join op) c.loop-value.so_far.value (Some v)) (map Some (drop (at + 1) values))) (to_z-of_z w64 (get_or values at (pos 0)) fits)
    ∙ ap (λ vs. fold (join_options (join op)) c.loop-value.so_far.value (map Some vs)) (sym (drop_more values at (pos 0) c.loop-value-test.true))
    ∙ c.loop-value.invariant
