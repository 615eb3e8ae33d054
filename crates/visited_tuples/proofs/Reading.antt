-- What is read at a tuple, found among the references.
use Rattle.std.proofs.Common.{◌≡◌, ℕ, ◌+◌, ◌&&◌, ◌||◌, not, slice_get, Bool, true, false, List, [], ◌∷◌, map, nat_eq, Option, Some, None, option_map, All, refl, sym, ◌∙◌, ap, ◌⊎◌, inl, inr, ⊎_elim}
use Rattle.std.proofs.lemmas.Bool.{eqb-true}
use Rattle.std.proofs.lemmas.List.Elements.{All-head, All-tail}
use Rattle.std.proofs.lemmas.Option.{none-some, same_Some}
use Rattle.std.specs.List.{list_all}
use Rattle.std.specs.Option.{is_some}
use Rattle.storage.specs.Storage.{Spot, is_same_spot}
use Rattle.machine_steps.specs.Layout.{Layout, owns_spot}
use Rattle.machine_steps.specs.Message.{names_spot}
use Rattle.axis_products.specs.Products.{each, places_at}
use Rattle.axis_products.specs.Tests.{Test, holds}
use Rattle.courses.specs.Owners.{IsLaidOut, bounds_test, held_test, owner_test}
use Rattle.courses.specs.References.{Named, named_spot, place_at_places}
use Rattle.courses.proofs.Owners.{bounded, element-below, holds-and, owned-get, owned-named}
use Rattle.courses.proofs.Sections.{both}
use Rattle.visited_tuples.specs.Owned.{Lies, OwnsRow, owns_if_in, owns_if_named, owns_in, owns_named}

spot-is : (a b : Spot) → is_same_spot a b ≡ true → a ≡ b
spot-is a b e =
    let h = both (nat_eq a.row b.row) (nat_eq a.at b.at) e in
    let p : a.row ≡ b.row = eqb-true a.row b.row h.0 in
    let q : a.at ≡ b.at = eqb-true a.at b.at h.1 in
    λ i. record { row = p i; at = q i }

-- the place of what is named
pub named-place : (row : ℕ) (o : Option ℕ) (spot : Spot) → option_map (λ k. record { row = row; at = k }) o ≡ Some spot
    → (at : ℕ) × (o ≡ Some at) × (record { row = row; at = at } ≡ spot)
named-place row None spot e = absurd (none-some spot e)
named-place row (Some k) spot e = (k, refl, same_Some (record { row = row; at = k }) spot e)

pub owns-named : (ns : List ℕ) (layouts : List Layout) (r : Named) (layout : Layout) (node t : ℕ) (spot : Spot) → IsLaidOut ns layouts r layout
    → named_spot ns t r ≡ Some spot → owns_spot layouts node spot ≡ holds (owns_named layouts node r) (places_at ns t)
owns-named ns layouts r layout node t spot laid named =
    let places = places_at ns t in
    let B : Test = bounds_test r.dims r.courses in
    let O : Test = owner_test layout.mapping node r.courses in
    let h = named-place r.row (place_at_places r places) spot named in
    let inside : holds B places ≡ true = sym (bounded ns r t (record { rank = laid.rank; axes = laid.axes })) ∙ ap is_some h.1 in
    ap (owns_spot layouts node) (sym h.2)
    ∙ owned-named ns layouts r layout laid node t h.0 h.1
    ∙ sym (ap (λ o. holds (owns_in o node r) places) laid.row ∙ holds-and B O places ∙ ap (λ b. b && holds O places) inside)

-- ---- what is the node's, if anything is named

module _ (b h : ℕ → ℕ → Bool) where
  abbrev outside-or : ℕ → ℕ → Bool
  outside-or axis place = not (b axis place) || h axis place

  each-inside : (k : ℕ) (ps : List ℕ) → each b k ps ≡ true → each outside-or k ps ≡ true → each h k ps ≡ true
  each-inside k [] inside e = refl
  each-inside k (p ∷ ps) inside e =
      let i = both (b k p) (each b (k + 1) ps) inside in
      let g = both (outside-or k p) (each outside-or (k + 1) ps) e in
      let here = held (b k p) (h k p) i.0 g.0 in
      let later = each-inside (k + 1) ps i.1 g.1 in
      λ j. here j && later j
    where
      held : (x y : Bool) → x ≡ true → (not x || y) ≡ true → y ≡ true
      held true y is e = e
      held false y is e = absurd cc

  each-more : (k : ℕ) (ps : List ℕ) → each h k ps ≡ true → each outside-or k ps ≡ true
  each-more k [] e = refl
  each-more k (p ∷ ps) e =
      let g = both (h k p) (each h (k + 1) ps) e in
      let here = more (b k p) (h k p) g.0 in
      let later = each-more (k + 1) ps g.1 in
      λ j. here j && later j
    where
      more : (x y : Bool) → y ≡ true → (not x || y) ≡ true
      more true y e = e
      more false y e = refl

pub own-if-named : (ns : List ℕ) (layouts : List Layout) (r : Named) (layout : Layout) (node t : ℕ) (spot : Spot) → IsLaidOut ns layouts r layout
    → named_spot ns t r ≡ Some spot → holds (owns_if_named layouts node r) (places_at ns t) ≡ true → owns_spot layouts node spot ≡ true
own-if-named ns layouts r layout node t spot laid named e =
    let places = places_at ns t in
    let B : Test = bounds_test r.dims r.courses in
    let H : Test = held_test r layout node in
    let inside : holds B places ≡ true = sym (bounded ns r t (record { rank = laid.rank; axes = laid.axes })) ∙ ap is_some (named-place r.row (place_at_places r places) spot named).1 in
    let g = both H.always (each (outside-or B.at H.at) 0 places) (sym (ap (λ o. holds (owns_if_in o node r) places) laid.row) ∙ e) in
    let all = each-inside B.at H.at 0 places (both B.always (each B.at 0 places) inside).1 g.1 in
    owns-named ns layouts r layout node t spot laid named ∙ ap (λ o. holds (owns_in o node r) places) laid.row ∙ (λ i. g.0 i && all i)

-- what is the node's is so
pub named-owned : (layouts : List Layout) (node : ℕ) (r : Named) (places : List ℕ) → holds (owns_named layouts node r) places ≡ true
    → holds (owns_if_named layouts node r) places ≡ true
named-owned layouts node r places e = by_row (slice_get layouts r.row) e
  where
    by_row : (o : Option Layout) → holds (owns_in o node r) places ≡ true → holds (owns_if_in o node r) places ≡ true
    by_row None e = e
    by_row (Some layout) e =
        let B : Test = bounds_test r.dims r.courses in
        let H : Test = held_test r layout node in
        let g = both H.always (each H.at 0 places) e in
        let all = each-more B.at H.at 0 places g.1 in
        λ i. g.0 i && all i

-- the element is named by the first read, or by one after it
pub named-first : (o : Option Spot) (reads : List (Option Spot)) (spot : Spot) → names_spot (o ∷ reads) spot ≡ true
    → (o ≡ Some spot) ⊎ (names_spot reads spot ≡ true)
named-first None reads spot e = inr e
named-first (Some s) reads spot e = by_same (is_same_spot s spot) refl e
  where
    by_same : (b : Bool) → is_same_spot s spot ≡ b → (b || names_spot reads spot) ≡ true → (Some s ≡ Some spot) ⊎ (names_spot reads spot ≡ true)
    by_same true is e = inl (ap Some (spot-is s spot is))
    by_same false is e = inr e

pub own-all : (ns : List ℕ) (layouts : List Layout) (rs : List Named) (node t : ℕ) (spot : Spot) → All (Lies ns layouts) rs
    → list_all (λ r. holds (owns_if_named layouts node r) (places_at ns t)) rs ≡ true → names_spot (map (named_spot ns t) rs) spot ≡ true
    → owns_spot layouts node spot ≡ true
own-all ns layouts [] node t spot lie all named = absurd cc
own-all ns layouts (r ∷ rs) node t spot lie all named =
    let each = both (holds (owns_if_named layouts node r) (places_at ns t)) (list_all (λ r. holds (owns_if_named layouts node r) (places_at ns t)) rs) all in
    let here = All-head (Lies ns layouts) r rs lie in
    ⊎_elim (λ named. own-if-named ns layouts r here.0 node t spot here.1 named each.0)
    (λ named. own-all ns layouts rs node t spot (All-tail (Lies ns layouts) r rs lie) each.1 named)
    (named-first (named_spot ns t r) (map (named_spot ns t) rs) spot named)

-- the same where it owns all elements of the rows
pub own-rows : (ns : List ℕ) (layouts : List Layout) (rs : List Named) (node t : ℕ) (spot : Spot) → All (OwnsRow ns layouts node) rs
    → names_spot (map (named_spot ns t) rs) spot ≡ true → owns_spot layouts node spot ≡ true
own-rows ns layouts [] node t spot whole named = absurd cc
own-rows ns layouts (r ∷ rs) node t spot whole named =
    let here = All-head (OwnsRow ns layouts node) r rs whole in
    ⊎_elim (λ named. let h = named-place r.row (place_at_places r (places_at ns t)) spot named in
    ap (owns_spot layouts node) (sym h.2) ∙ ap (λ o. o node h.0) (owned-get layouts r.row here.0 here.1.row)
    ∙ here.2 h.0 (element-below ns layouts r here.0 here.1 t h.0 h.1))
    (λ named. own-rows ns layouts rs node t spot (All-tail (OwnsRow ns layouts node) r rs whole) named)
    (named-first (named_spot ns t r) (map (named_spot ns t) rs) spot named)
