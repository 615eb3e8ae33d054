-- References of which few suffice, since whoever computes a tuple owns what the others name there.
use Rattle.std.proofs.Common.{◌≡◌, ℕ, ◌==◌, ◌&&◌, not, Bool, true, false, nat_lt, slice_index_or, List, Some, sym, ◌∙◌, ap, ⊎_elim}
use Rattle.std.proofs.lemmas.Option.{same_Some}
use Rattle.std.specs.Option.{is_some}
use Rattle.storage.specs.Storage.{Spot}
use Rattle.machine_steps.specs.Layout.{Layout, in_bounds, least_owner_of, owns_spot, sizes}
use Rattle.machine_steps.specs.Message.{computes_left}
use Rattle.axis_products.specs.Products.{places_at}
use Rattle.message_elements.specs.Elements.{is_sent}
use Rattle.courses.specs.Owners.{IsLaidOut}
use Rattle.courses.specs.References.{Named, named_spot, place_at_places}
use Rattle.courses.proofs.Owners.{bounded, element-named, owned-get}
use Rattle.courses.proofs.Sections.{both}
use Rattle.visited_tuples.specs.Visited.{AreAlike, IsHeld, IsSending, IsTaking, Suffice}
use Rattle.visited_tuples.proofs.Reading.{named-place}
use Rattle.visited_tuples.proofs.Sent.{clash, not-true}

module _ (computes : (node tuple : ℕ) → Bool) (layouts : List Layout) (ns : List ℕ) (rs few : List Named) (id : ℕ) (ts : List ℕ)
    (suffice : Suffice computes layouts ns rs few) where
  pub taking-few : IsTaking computes layouts ns few id ts → IsTaking computes layouts ns rs id ts
  taking-few is = record {
    below = is.below;
    own = is.own;
    every = λ t spot small mine named theirs.
        ⊎_elim (λ among. is.every t spot small mine among theirs) (λ own. clash (own id mine) theirs) (suffice t spot small named);
  }

  lacks : (nodes other : ℕ) (spot : Spot) → is_sent nodes layouts id other spot ≡ true → owns_spot layouts other spot ≡ false
  lacks nodes other spot sends =
      let e = both (nat_lt spot.at (slice_index_or (sizes layouts) spot.row 0)) (not (owns_spot layouts other spot) && (least_owner_of nodes layouts spot == id)) sends in
      not-true (owns_spot layouts other spot) (both (not (owns_spot layouts other spot)) (least_owner_of nodes layouts spot == id) e.1).0

  pub sending-few : (nodes : ℕ) → IsSending computes nodes layouts ns few id ts → IsSending computes nodes layouts ns rs id ts
  sending-few nodes is = record {
    below = is.below;
    every = λ t other spot small inside theirs named sends.
        ⊎_elim (λ among. is.every t other spot small inside theirs among sends) (λ own. clash (own other theirs) (lacks nodes other spot sends)) (suffice t spot small named);
  }

-- the owners of what is assigned own what lies as that does
pub alike-held : (layouts : List Layout) (ns : List ℕ) (l r : Named) (layout : Layout) → IsLaidOut ns layouts l layout → AreAlike layouts l r
    → IsHeld (λ node t. computes_left layouts node (in_bounds layouts (named_spot ns t l))) layouts ns r
alike-held layouts ns l r layout laid alike t spot small named node computes =
    let places = places_at ns t in
    let h = named-place r.row (place_at_places r places) spot named in
    let at-l : place_at_places l places ≡ Some h.0 = sym (λ i. place_at_places (record { row = l.row; dims = alike.dims i; courses = alike.courses i }) places) ∙ h.1 in
    let e = element-named ns layouts l layout laid t (sym (bounded ns l t (record { rank = laid.rank; axes = laid.axes })) ∙ ap is_some at-l) in
    let same : e.0 ≡ h.0 = same_Some e.0 h.0 (sym e.1 ∙ at-l) in
    ap (owns_spot layouts node) (sym h.2)
    ∙ ap (λ o. o node h.0) (owned-get layouts r.row layout (alike.rows ∙ laid.row) ∙ sym (owned-get layouts l.row layout laid.row))
    ∙ ap (λ at. owns_spot layouts node (record { row = l.row; at = at })) (sym same)
    ∙ sym (ap (computes_left layouts node) e.2) ∙ computes
