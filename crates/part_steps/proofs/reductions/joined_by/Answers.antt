use Rattle.std.proofs.Common.{◌<◌, ◌∙◌, Some, SFits, ap, length, rules, get_or, to_z, w64, pos, ℤ}
use Rattle.std.proofs.lemmas.Int.{to_z-of_z}
use Rattle.op_tables.specs.Joins.{join}
use Rattle.part_steps.proofs.StripLaws.{joined-next}
use Rattle.part_steps.proofs.reductions.joined_by.Goals as goal

pub loop-value-preserved : goal.loop-value-preserved
loop-value-preserved c =
    let values = c.args.values.now in
    let index = c.loop-value.value-index in
    let value : ℤ = get_or values index (pos 0) in
    let so_far : ℤ = to_z w64 c.loop-value.so_far-bits in
    let inside : index < length values = search rules in
    let fits : SFits w64 c.join-so_far.result = search rules in
    let small : SFits w64 (get_or c.args.values.now c.loop-value.value-index (pos 0)) = search rules in
    joined-next c.args.op values index (pos 0) (Some so_far) _ _ inside
    (ap Some (to_z-of_z w64 c.join-so_far.result fits ∙ c.join-so_far.ensures ∙ ap (join c.args.op so_far) (to_z-of_z w64 value small))) c.loop-value.invariant
