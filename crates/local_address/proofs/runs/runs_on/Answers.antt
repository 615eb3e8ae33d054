use Rattle.std.proofs.Common.{rules, ◌≡◌, ◌==◌, pos, ◌+ℤ◌, FitsSigned, of_z, to_z, ◌∙◌, ap, arith, filter, ◌++◌, ◌∷◌, []}
use Rattle.std.proofs.lemmas.Int.{to_z-of_z}
use Rattle.std.specs.Int.{w64}
use Rattle.local_address.specs.Runs.{coordinate_on, run_of, subscripts}
use Rattle.local_address.proofs.SpanLaws.{run-short, table-more, table-run}
use Rattle.local_address.proofs.runs.runs_on.Goals as goal

pub more-requires : goal.more-requires
more-requires c =
    let lower = to_z w64 (of_z w64 c.args.lower) in
    let run = table-run c.args.axis.now lower c.loop-place.place c.loop-place.runs.items c.coordinate_on-coordinate.result c.index.result.now c.loop-place.invariant
    c.coordinate_on-coordinate.ensures.below c.index.ensures in
    omega (
      arith,
      ap (λ r. r.count) run,
      run-short (λ i. coordinate_on c.args.axis.now i == c.coordinate_on-coordinate.result) lower c.loop-place.place,
      c.loop-place-test.true,
      c.requires.extent,
    )

pub loop-place-preserved : goal.loop-place-preserved
loop-place-preserved c =
    let lower = to_z w64 (of_z w64 c.args.lower) in
    let own = c.coordinate_on-coordinate.result in
    let so_far = filter (λ i. coordinate_on c.args.axis.now i == own) (subscripts lower c.loop-place.place) in
    let fits : FitsSigned w64 c.subscript-i.result = search rules in
    let i : to_z w64 (of_z w64 c.subscript-i.result) ≡ lower +ℤ pos c.loop-place.place = to_z-of_z w64 c.subscript-i.result fits ∙ c.subscript-i.ensures in
    let run = table-run c.args.axis.now lower c.loop-place.place c.loop-place.runs.items own c.index.result.now c.loop-place.invariant
    c.coordinate_on-coordinate.ensures.below c.index.ensures in
    table-more c.args.axis.now lower c.loop-place.place c.loop-place.runs.items own c.more.result c.loop-place.invariant
    (c.coordinate_on-coordinate.ensures.value ∙ ap (coordinate_on c.args.axis.now) i) c.coordinate_on-coordinate.ensures.below
    (c.more.ensures so_far run ∙ ap (λ j. run_of (so_far ++ j ∷ [])) i)
