use Rattle.std.proofs.Common.{rules, ◌≡◌, ◌-◌, pos, ◌≤ℤ◌, FitsSigned, of_z, to_z, ◌∙◌, ap, subst, arith}
use Rattle.std.proofs.lemmas.Int.{to_z-of_z}
use Rattle.std.specs.Int.{w64, w128}
use Rattle.gap_table.specs.OwnedSequence.{position_of}
use Rattle.owner_cases.proofs.SectionLaws.{section-inside}
use Rattle.owner_cases.proofs.sections.is_section.Goals as goal

pub returns : goal.returns
returns c =
    let fits : FitsSigned w128 c.last_position.result = search rules in
    let last : to_z w128 (of_z w128 c.last_position.result) ≡ position_of c.args.start c.args.stride (c.args.count - 1) =
    to_z-of_z w128 c.last_position.result fits ∙ c.last_position.ensures
    ∙ ap (λ s. position_of c.args.start s (c.args.count - 1)) (to_z-of_z w64 c.args.stride c.ranges.stride) in
    λ inside. section-inside c.args.line.now c.args.start c.args.count c.args.stride (omega (arith, c.if-count-eq0.false)) c.if-start-lt1.false c.if-start-line.false
    (subst (λ z. pos 1 ≤ℤ z) last (c.is_position.ensures.low inside)) (subst (λ z. z ≤ℤ pos c.args.line.now.extent) last (c.is_position.ensures.high inside))
