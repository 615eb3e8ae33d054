-- Who owns what is named, and who computes, by axes.
use Rattle.std.proofs.Common.{◌≡◌, ℕ, zero, suc, ◌+◌, ◌/◌, ◌<◌, ◌==◌, Bool, true, false, ◌&&◌, if◌then◌else◌, List, [], ◌∷◌, length, Option, Some, None, option_map, slice_get, slice_index_or, All, refl, sym, ◌∙◌, ap, subst, eq-eqb}
use Rattle.std.proofs.lemmas.Bool.{eqb-true, lt-ltb}
use Rattle.std.proofs.lemmas.List.{length-map}
use Rattle.std.proofs.lemmas.Option.{none-some}
use Rattle.std.specs.Option.{is_some}
use Rattle.hpf_base.specs.ElementOrder.{product, extents_of}
use Rattle.hpf_base.specs.Grid.{node_coordinates}
use Rattle.mappings.specs.Alignment.{owns}
use Rattle.mappings.specs.Mapping.{IsAlign}
use Rattle.mappings.proofs.Sections.{same_test}
use Rattle.storage.specs.Storage.{Spot}
use Rattle.machine_steps.specs.Layout.{Layout, element_index, in_bounds, least_owner_of, owned_by, owned_in, owns_spot, size_of, sizes}
use Rattle.machine_steps.specs.Message.{computes_left, least_or_zero}
use Rattle.axis_products.specs.Products.{each, places_at}
use Rattle.axis_products.specs.Tests.{Test, and_test, holds}
use Rattle.courses.specs.Courses.{course_at, courses_at}
use Rattle.courses.specs.Owners.{AreLed, IsLaidOut, bounds_test, least_test, owner_test}
use Rattle.courses.specs.References.{IsAlongAxes, Named, named_spot, place_at_places}
use Rattle.courses.specs.Subscripts.{AxesBelow, fixed_pass, axis_pass, in_dim, shape_of_dims, alone, along_dims}
use Rattle.courses.proofs.Indices.{index}
use Rattle.courses.proofs.Sections.{both}
use Rattle.courses.proofs.StraightForms.{same}
use Rattle.courses.proofs.Subscripts.{pairs, assoc, each-and, courses-pass, bounds, owners}

length-places : (ns : List ℕ) (t : ℕ) → length (places_at ns t) ≡ length ns
length-places [] t = refl
length-places (n ∷ ns) t = ap suc (length-places ns (t / n))

pub holds-and : (a b : Test) (places : List ℕ) → holds (and_test a b) places ≡ (holds a places && holds b places)
holds-and a b places = ap (λ e. (a.always && b.always) && e) (each-and a.at b.at 0 places) ∙ pairs a.always b.always (each a.at 0 places) (each b.at 0 places)

-- in bounds
pub bounded : (ns : List ℕ) (r : Named) (t : ℕ) → IsAlongAxes (length ns) r → is_some (place_at_places r (places_at ns t)) ≡ holds (bounds_test r.dims r.courses) (places_at ns t)
bounded ns r t along =
    bounds r.dims (courses_at (places_at ns t) r.courses) (sym along.rank ∙ sym (length-map r.courses (course_at (places_at ns t))))
    ∙ courses-pass (in_dim r.dims) r.courses (places_at ns t) (subst (λ n. AxesBelow n r.courses) (sym (length-places ns t)) along.axes)

some-of : (o : Option ℕ) → is_some o ≡ true → (k : ℕ) × (o ≡ Some k)
some-of None e = absurd cc
some-of (Some k) e = (k, refl)

both-hold : (a b : Bool) → a ≡ true → b ≡ true → (a && b) ≡ true
both-hold a b h g = ap (λ x. x && b) h ∙ g

pub owned-get : (layouts : List Layout) (row : ℕ) (layout : Layout) → slice_get layouts row ≡ Some layout → owned_in layouts row ≡ owned_by layout
owned-get [] row layout e = absurd (none-some layout e)
owned-get (l ∷ ls) zero layout e = ap owned_by (same e)
owned-get (l ∷ ls) (suc row) layout e = owned-get ls row layout e

pub size-get : (layouts : List Layout) (row : ℕ) (layout : Layout) → slice_get layouts row ≡ Some layout → slice_index_or (sizes layouts) row 0 ≡ size_of layout
size-get [] row layout e = absurd (none-some layout e)
size-get (l ∷ ls) zero layout e = ap size_of (same e)
size-get (l ∷ ls) (suc row) layout e = size-get ls row layout e

module _ (ns : List ℕ) (layouts : List Layout) (r : Named) (layout : Layout) (laid : IsLaidOut ns layouts r layout) where
  abbrev below-places : (t : ℕ) → AxesBelow (length (places_at ns t)) r.courses
  below-places t = subst (λ n. AxesBelow n r.courses) (sym (length-places ns t)) laid.axes

  length-subscripts : (t : ℕ) → length r.dims ≡ length (courses_at (places_at ns t) r.courses)
  length-subscripts t = sym laid.rank ∙ sym (length-map r.courses (course_at (places_at ns t)))

  size-is : product (extents_of (shape_of_dims r.dims)) ≡ size_of layout
  unfolding size_of
  size-is = ap (λ s. product (extents_of s)) (sym laid.shape)

  -- what is named is an element of its row
  pub element-below : (t at : ℕ) → place_at_places r (places_at ns t) ≡ Some at → at < size_of layout
  element-below t at e = subst (λ n. at < n) size-is (index r.dims (courses_at (places_at ns t) r.courses) at e).0

  owned-apart : (node at : ℕ) → at < size_of layout → owned_by layout node at ≡ owns layout.mapping (element_index layout.shape at) node
  unfolding owned_by
  owned-apart node at below = ap (λ b. b && owns layout.mapping (element_index layout.shape at) node) (lt-ltb at (size_of layout) below)

  pub owned : (node t at : ℕ) → place_at_places r (places_at ns t) ≡ Some at
      → owned_by layout node at ≡ holds (owner_test layout.mapping node r.courses) (places_at ns t)
  owned node t at e =
      let js = courses_at (places_at ns t) r.courses in
      let coordinates = node_coordinates layout.mapping.grid node in
      let test = along_dims coordinates layout.mapping.dims in
      let A = alone coordinates layout.mapping.dims in
      owned-apart node at (element-below t at e)
      ∙ ap (λ s. owns layout.mapping (element_index s at) node) laid.shape
      ∙ ap (λ is. owns layout.mapping is node) (index r.dims js at e).1
      ∙ owners layout.mapping js node (subst (λ n. All (λ e. IsAlign n e.align) layout.mapping.dims) (length-subscripts t) laid.align)
      ∙ ap (λ b. A && b) (courses-pass test r.courses (places_at ns t) (below-places t))
      ∙ assoc A (fixed_pass test 0 r.courses) (each (axis_pass test 0 r.courses) 0 (places_at ns t))

  -- what is named in bounds is an element of its row
  pub element-named : (t : ℕ) → holds (bounds_test r.dims r.courses) (places_at ns t) ≡ true
      → (at : ℕ) × (place_at_places r (places_at ns t) ≡ Some at) × (in_bounds layouts (named_spot ns t r) ≡ Some (record { row = r.row; at = at }))
  element-named t inside =
      let k = some-of (place_at_places r (places_at ns t)) (bounded ns r t (record { rank = laid.rank; axes = laid.axes }) ∙ inside) in
      let at = k.0 in
      let size : slice_index_or (sizes layouts) r.row 0 ≡ size_of layout = size-get layouts r.row layout laid.row in
      let fits : at < slice_index_or (sizes layouts) r.row 0 = subst (λ n. at < n) (sym size) (element-below t at k.1) in (
        at,
        k.1,
        ap (λ o. in_bounds layouts (option_map (λ k. record { row = r.row; at = k }) o)) k.1
            ∙ ap (λ b. if b then Some (record { row = r.row; at = at }) else None) (lt-ltb at (slice_index_or (sizes layouts) r.row 0) fits),
      )

  pub owned-named : (node t at : ℕ) → place_at_places r (places_at ns t) ≡ Some at
      → owns_spot layouts node (record { row = r.row; at = at }) ≡ holds (owner_test layout.mapping node r.courses) (places_at ns t)
  owned-named node t at is = ap (λ g. g node at) (owned-get layouts r.row layout laid.row) ∙ owned node t at is

pub left : (ns : List ℕ) (layouts : List Layout) (l : Named) (layout : Layout) (node t : ℕ) → IsLaidOut ns layouts l layout
    → holds (bounds_test l.dims l.courses) (places_at ns t) ≡ true
    → computes_left layouts node (in_bounds layouts (named_spot ns t l)) ≡ holds (owner_test layout.mapping node l.courses) (places_at ns t)
left ns layouts l layout node t laid inside =
    let h = element-named ns layouts l layout laid t inside in
    ap (computes_left layouts node) h.2 ∙ owned-named ns layouts l layout laid node t h.0 h.1

led-least : (nodes : ℕ) (layouts : List Layout) (spot : Spot) (lead : ℕ → ℕ) (node : ℕ) → node < nodes → AreLed nodes layouts spot lead
    → (least_owner_of nodes layouts spot == node) ≡ ((lead node == node) && owns_spot layouts node spot)
led-least nodes layouts spot lead node below h = same_test (least_owner_of nodes layouts spot == node) ((lead node == node) && owns_spot layouts node spot)
    (λ e.
    let is : least_owner_of nodes layouts spot ≡ node = eqb-true (least_owner_of nodes layouts spot) node e in
    let mine : owns_spot layouts node spot ≡ true = subst (λ n. owns_spot layouts n spot ≡ true) is h.owned in
    let leads = eqb-true (least_owner_of nodes layouts spot) (lead node) (h.led node below ∙ mine) in
    both-hold (lead node == node) (owns_spot layouts node spot) (eq-eqb (lead node) node (sym leads ∙ is)) mine)
    (λ e.
    let g = both (lead node == node) (owns_spot layouts node spot) e in
    let leads = eqb-true (least_owner_of nodes layouts spot) (lead node) (h.led node below ∙ g.1) in
    eq-eqb (least_owner_of nodes layouts spot) node (leads ∙ eqb-true (lead node) node g.0))

pub each-true : (k : ℕ) (ps : List ℕ) → each (λ axis place. true) k ps ≡ true
each-true k [] = refl
each-true k (p ∷ ps) = each-true (k + 1) ps

pub least : (nodes : ℕ) (ns : List ℕ) (layouts : List Layout) (r : Named) (layout : Layout) (lead : ℕ → ℕ) (node t : ℕ) → node < nodes → IsLaidOut ns layouts r layout
    → ((spot : Spot) → named_spot ns t r ≡ Some spot → AreLed nodes layouts spot lead) → holds (bounds_test r.dims r.courses) (places_at ns t) ≡ true
    → (least_or_zero nodes layouts (in_bounds layouts (named_spot ns t r)) == node) ≡ holds (least_test layout.mapping lead node r.courses) (places_at ns t)
least nodes ns layouts r layout lead node t below laid led inside =
    let h = element-named ns layouts r layout laid t inside in
    let at = h.0 in
    let spot : Spot = record { row = r.row; at = at } in
    let is : named_spot ns t r ≡ Some spot = ap (option_map (λ k. record { row = r.row; at = k })) h.1 in
    let first : Test = record { always = lead node == node; at = λ axis place. true } in
    let O = holds (owner_test layout.mapping node r.courses) (places_at ns t) in
    ap (λ o. least_or_zero nodes layouts o == node) h.2
    ∙ led-least nodes layouts spot lead node below (led spot is)
    ∙ ap (λ b. (lead node == node) && b) (owned-named ns layouts r layout laid node t at h.1)
    ∙ ap (λ b. b && O) (sym (with_true (lead node == node)) ∙ ap (λ b. (lead node == node) && b) (sym (each-true 0 (places_at ns t))))
    ∙ sym (holds-and first (owner_test layout.mapping node r.courses) (places_at ns t))
  where
    with_true : (b : Bool) → (b && true) ≡ b
    with_true true = refl
    with_true false = refl
