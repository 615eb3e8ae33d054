use Rattle.std.proofs.Common.{rules, FitsSigned, ◌≡◌, ℕ, ◌+◌, ◌*◌, ◌<◌, ◌==◌, pos, ◌+ℤ◌, of_z, to_z, ◌∙◌, ap, arith, get_or, length, map, set}
use Rattle.std.proofs.lemmas.Int.{to_z-of_z}
use Rattle.std.proofs.lemmas.List.FromFn.{length-map-range_with_len}
use Rattle.std.specs.Int.{w64}
use Rattle.std.specs.List.{range_with_len}
use Rattle.hpf_base.proofs.Ranges.{map-range_push}
use Rattle.local_address.specs.Runs.{coordinate_on, procs_on}
use Rattle.periodic_runs.specs.declared.runs.Place.{Place}
use Rattle.owner_tables.specs.Columns.{count_on, place_on}
use Rattle.owner_tables.proofs.Counting.{count-few, count-here, counts-next}
use Rattle.owner_tables.proofs.Ranges.{replicate-range}
use Rattle.owner_tables.proofs.columns.deal.Goals as goal

pub loop-place-init : goal.loop-place-init
loop-place-init c =
    (c.new_places-places.ensures, c.in_ok-counts.ensures ∙ replicate-range 0 0 c.procs_on.result ∙ ap (λ n. map (λ k. 0) (range_with_len 0 n)) c.procs_on.ensures)

pub next_number-rank-requires-clause-within : goal.next_number-rank-requires-clause-within
next_number-rank-requires-clause-within c =
    let lower = to_z w64 (of_z w64 c.args.lower) in
    omega (
      arith,
      c.coordinate_on-coordinate.ensures.below,
      ap length c.loop-place.invariant.1,
      length-map-range_with_len (count_on c.args.axis.now lower c.loop-place.place) 0 (procs_on c.args.axis.now),
    )

pub next_number-rank-requires-clause-few : goal.next_number-rank-requires-clause-few
next_number-rank-requires-clause-few c =
    let axis = c.args.axis.now in
    let lower = to_z w64 (of_z w64 c.args.lower) in
    let place = c.loop-place.place in
    let coordinate : ℕ → ℕ = λ p. coordinate_on axis (lower +ℤ pos p) in
    let fits : FitsSigned w64 c.subscript.result = search rules in
    let is : c.coordinate_on-coordinate.result ≡ coordinate place =
    c.coordinate_on-coordinate.ensures.value ∙ ap (coordinate_on axis) (to_z-of_z w64 c.subscript.result fits ∙ c.subscript.ensures) in
    let within : coordinate place < procs_on axis = omega (arith, is, c.coordinate_on-coordinate.ensures.below) in
    let here = ap (λ n. get_or c.loop-place.counts.items n 0) is ∙ count-here coordinate (procs_on axis) place within c.loop-place.counts.items c.loop-place.invariant.1 in
    omega (arith, here, count-few (λ p. coordinate p == coordinate place) place, c.loop-place-test.true, c.requires.extent)

pub loop-place-preserved : goal.loop-place-preserved
loop-place-preserved c =
    let axis = c.args.axis.now in
    let lower = to_z w64 (of_z w64 c.args.lower) in
    let place = c.loop-place.place in
    let counts = c.loop-place.counts.items in
    let coordinate : ℕ → ℕ = λ p. coordinate_on axis (lower +ℤ pos p) in
    let fits : FitsSigned w64 c.subscript.result = search rules in
    let is : c.coordinate_on-coordinate.result ≡ coordinate place =
    c.coordinate_on-coordinate.ensures.value ∙ ap (coordinate_on axis) (to_z-of_z w64 c.subscript.result fits ∙ c.subscript.ensures) in
    let within : coordinate place < procs_on axis = omega (arith, is, c.coordinate_on-coordinate.ensures.below) in
    let rank : c.next_number-rank.result ≡ count_on axis lower place (coordinate place) =
    c.next_number-rank.ensures.number ∙ ap (λ n. get_or counts n 0) is ∙ count-here coordinate (procs_on axis) place within counts c.loop-place.invariant.1 in
    let made : Place = record { part = c.coordinate_on-coordinate.result * c.args.weight; rank = c.next_number-rank.result } in (
      map-range_push (place_on axis c.args.weight lower) c.loop-place.places c.push.new.self made place c.in_ok-push.ensures
          c.loop-place.invariant.0 (λ i. record { part = is i * c.args.weight; rank = rank i }),
      c.next_number-rank.ensures.more ∙ ap (λ n. set counts n (get_or counts n 0 + 1)) is
          ∙ counts-next coordinate (procs_on axis) place within counts c.loop-place.invariant.1,
    )

pub push-requires : goal.push-requires
push-requires c =
    let made = place_on c.args.axis.now c.args.weight (to_z w64 (of_z w64 c.args.lower)) in
    omega (arith, ap length c.loop-place.invariant.0, length-map-range_with_len made 0 c.loop-place.place, c.loop-place-test.true, c.requires.extent)
