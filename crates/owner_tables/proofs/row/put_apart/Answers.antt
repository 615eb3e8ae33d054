use Rattle.std.proofs.Common.{◌<◌, ◌^◌, drop, get_or, length, pos, rules, sym, ◌∙◌}
use Rattle.std.proofs.lemmas.Int.{to_z-of_z}
use Rattle.owner_tables.proofs.LineLaws.{with_line-next, with_line-past}
use Rattle.owner_tables.proofs.row.put_apart.Goals as goal
use mir.Syntax.{w64}
use mir.Val.{SFits}

pub returns-then-place-row : goal.returns-then-place-row
returns-then-place-row c =
    sym (with_line-past c.loop-value.row c.loop-value.place c.args.step (drop c.loop-value.value-index c.args.values.now) c.if-place-row.true)
    ∙ c.loop-value.invariant

pub loop-value-preserved : goal.loop-value-preserved
loop-value-preserved c =
    let few : length c.loop-value.row < 2 ^ 64 = search rules in
    let fits : SFits w64 (get_or c.args.values.now c.loop-value.value-index (pos 0)) = search rules in
    with_line-next c.loop-value.row c.loop-value.place c.saturating_add-place.result c.args.step c.args.values.now c.loop-value.value-index _ few
    c.saturating_add-place.ensures c.loop-value-test.true (to_z-of_z w64 _ fits)
    ∙ c.loop-value.invariant
