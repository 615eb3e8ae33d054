use Rattle.std.proofs.Common.{◌≡◌, ◌<◌, w64, length, get_or, map, sym, ◌∙◌, ap, SFits, arith, rules}
use Rattle.std.proofs.lemmas.Int.{to_z-of_z}
use Rattle.std.proofs.lemmas.List.{length-map}
use Rattle.std.proofs.Math.ListN.{get_or-map}
use Rattle.std.specs.Ordering.{is_eq}
use Rattle.storage.specs.Spots.{spot_of}
use Rattle.message_elements.proofs.Ascending.{same-tied, same-true}
use Rattle.comm_sets.proofs.Lookups.{lookup-at, lookup-none, none-found, searchable}
use Rattle.comm_sets.proofs.lookup.value_in.Goals as goal

pub returns-in-Ok : goal.returns-in-Ok
returns-in-Ok c =
    let spots = c.args.spots.now in
    let spot = spot_of c.args.spot in
    let place = c.in-Ok.place in
    let fits : SFits w64 c.value_at.result = search rules in
    let inside : place < length (map spot_of spots) = omega (arith, c.in-Ok.ensures.bound, length-map spots spot_of) in
    let is : get_or (map spot_of spots) place spot ≡ spot =
    get_or-map spot_of spots place c.args.spot ∙ same-true (spot_of (get_or spots place c.args.spot)) spot
    (same-tied (spot_of (get_or spots place c.args.spot)) spot ∙ ap is_eq (c.in-Ok.ensures.ok c.args.spot)) in
    to_z-of_z w64 c.value_at.result fits ∙ c.value_at.ensures ∙ sym (lookup-at (map spot_of spots) c.args.values.now spot spot place c.requires inside is)

pub returns-in-Err : goal.returns-in-Err
returns-in-Err c =
    let spots = c.args.spots.now in
    let place = c.in-Err.ensures.position (searchable spot_of spots (spot_of c.args.spot) c.requires) in
    sym (lookup-none (map spot_of spots) c.args.values.now (spot_of c.args.spot) (none-found spot_of spots c.in-Err.field-0 (spot_of c.args.spot) place.0 place.1))
