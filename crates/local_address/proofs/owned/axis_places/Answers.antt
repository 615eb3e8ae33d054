use Rattle.std.proofs.Common.{rules, ◌≡◌, ◌∙◌, arith, FitsSigned, Some, pos, ◌+ℤ◌, of_z, to_z, sym, subst}
use Rattle.std.proofs.lemmas.Int.{ints, to_z-of_z}
use Rattle.std.specs.Int.{w64}
use Rattle.local_address.specs.Runs.{InAxis}
use Rattle.local_address.proofs.OwnedLaws.{places-along, section-along}
use Rattle.local_address.proofs.owned.axis_places.Goals as goal

pub position_on-start-requires-clause-inside : goal.position_on-start-requires-clause-inside
position_on-start-requires-clause-inside c =
    let lower : to_z w64 (of_z w64 c.args.lower) ≡ c.args.lower = to_z-of_z w64 c.args.lower c.ranges.lower in
    let first : c.args.lower +ℤ pos 0 ≡ c.args.lower = omega (arith, ints) in
    subst (InAxis (Some c.args.axis.now)) (first ∙ sym lower) (c.requires.inside 0 (omega (arith, c.requires.some)))

pub of_section-requires-clause-section : goal.of_section-requires-clause-section
of_section-requires-clause-section c =
    let fits : FitsSigned w64 c.args.axis.now.factor = search rules in
    section-along c.args.axis.now c.args.lower (to_z w64 (of_z w64 c.args.lower)) (to_z w64 (of_z w64 c.args.axis.now.factor)) c.position_on-start.result c.args.extent
    (to_z-of_z w64 c.args.lower c.ranges.lower) (to_z-of_z w64 c.args.axis.now.factor fits) c.position_on-start.ensures c.requires.inside

pub returns : goal.returns
returns c =
    let fits : FitsSigned w64 c.args.axis.now.factor = search rules in
    c.in_ok-table.ensures.places
    ∙ places-along c.args.axis.now c.args.lower (to_z w64 (of_z w64 c.args.lower)) (to_z w64 (of_z w64 c.args.axis.now.factor)) c.position_on-start.result
    c.args.extent c.args.own (to_z-of_z w64 c.args.lower c.ranges.lower) (to_z-of_z w64 c.args.axis.now.factor fits) c.position_on-start.ensures
