-- Copies beside arrays: sizes and owners.
use Rattle.std.proofs.Common.{◌≡◌, ℕ, zero, suc, ◌+◌, ◌<◌, ◌≤◌, ◌==◌, Bool, true, false, if◌then◌else◌, ℤ, pos, List, [], ◌∷◌, length, map, get_or, slice_get, nat_le, Option, Some, None, refl, sym, ◌∙◌, ap, subst, arith}
use Rattle.std.proofs.lemmas.Bool.{and_parts, false≢true, leb-true, not-true}
use Rattle.std.proofs.lemmas.Int.{ints}
use Rattle.mappings.specs.declared.mapping.AlignDim.{AlignDim}
use Rattle.mappings.specs.Alignment.{composed, owns, owns_at}
use Rattle.align_map.proofs.ComposedLaws.{owns_at-composed}
use Rattle.hpf_base.specs.declared.limits.TheConstants.{MAX_ELEMENTS}
use Rattle.hpf_base.specs.ElementOrder.{extents_of, index_at, product}
use Rattle.hpf_base.proofs.Elements.{elements-get, places_of}
use Rattle.hpf_base.proofs.Places.{IsPlace, length-place_at, number_of, number_of-below, place_at, place_at-number_of}
use Rattle.machine_steps.specs.Layout.{AreOwned, IsDealt, Layout, element_index, owned_by, owned_in, size_of, sizes}
use Rattle.machine_steps.proofs.Owners.{owned-inside}
use Rattle.machine_steps.specs.CopyLayout.{copy_extents, copy_layout, copy_shape}
use Rattle.machine_steps.specs.Space.{space_count}
use Rattle.aligned_copies.specs.Beside.{Anchor, aligned_layout, are_apart, are_inside, beside, is_good, lies_by, settled, subscript_by}
use Rattle.aligned_copies.proofs.CopyLaws.{copy-dealt, copy-size, copy_extents-product, extents-back, factors_some, place-below}
use Rattle.aligned_copies.proofs.Inside.{ArePositions, all-aligned, element-place}

nat-some : (n : ℕ) → (n == 0) ≡ false → 1 ≤ n
nat-some zero h = absurd (false≢true (sym h))
nat-some (suc n) h = omega arith

-- a space that isn't empty is within the limit
pub counted : (ns : List ℕ) → (space_count ns == 0) ≡ false → (space_count ns ≡ product ns) × (1 ≤ product ns) × (product ns ≤ MAX_ELEMENTS)
counted ns some = by (nat_le (product ns) MAX_ELEMENTS) refl some
  where
    by : (t : Bool) → nat_le (product ns) MAX_ELEMENTS ≡ t → ((if t then product ns else 0) == 0) ≡ false
        → ((if t then product ns else 0) ≡ product ns) × (1 ≤ product ns) × (product ns ≤ MAX_ELEMENTS)
    by true is h = (refl, nat-some (product ns) h, leb-true (product ns) MAX_ELEMENTS is)
    by false is h = absurd (false≢true (sym h))

beside-size : (layout : Layout) (ns : List ℕ) (xs : List AlignDim) → size_of (beside layout ns xs) ≡ product ns
unfolding size_of
beside-size layout ns xs = ap product (extents-back ns)

pub have-sizes : (nodes : ℕ) (layouts : List Layout) (anchor : Option Anchor) (ns : List ℕ) → size_of (aligned_layout nodes layouts anchor ns) ≡ space_count ns
have-sizes nodes layouts None ns = copy-size nodes ns
have-sizes nodes layouts (Some anchor) ns = by_row (slice_get layouts anchor.row)
  where
    by_test : (layout : Layout) (t : Bool) → size_of (if t then beside layout (copy_extents ns) anchor.subscripts else copy_layout nodes ns) ≡ space_count ns
    by_test layout true = beside-size layout (copy_extents ns) anchor.subscripts ∙ copy_extents-product ns
    by_test layout false = copy-size nodes ns

    by_row : (o : Option Layout) → size_of (lies_by nodes (copy_extents ns) anchor.subscripts o) ≡ space_count ns
    by_row None = copy-size nodes ns
    by_row (Some layout) = by_test layout (is_good layout.shape (copy_extents ns) anchor.subscripts)

-- ---- positions

position-get : (extents place : List ℕ) (k : ℕ) → length place ≡ length extents → k < length extents
    → get_or (index_at (map (λ e. pos 1) extents) place) k (pos 0) ≡ pos (1 + get_or place k 0)
position-get [] place k same within = absurd (omega (arith, within))
position-get (e ∷ es) [] k same within = absurd (omega (arith, same))
position-get (e ∷ es) (p ∷ ps) zero same within = omega (arith, ints)
position-get (e ∷ es) (p ∷ ps) (suc k) same within = position-get es ps k (omega (arith, same)) (omega (arith, within))

ones-length : (ns places : List ℕ) → length places ≡ length ns → length (index_at (map (λ e. pos 1) ns) places) ≡ length ns
ones-length [] places same = refl
ones-length (n ∷ ns) [] same = absurd (omega (arith, same))
ones-length (n ∷ ns) (p ∷ ps) same = ap suc (ones-length ns ps (omega (arith, same)))

tuple-is : (ns : List ℕ) (at : ℕ) → at < product ns → element_index (copy_shape ns) at ≡ index_at (map (λ e. pos 1) ns) (place_at ns at)
tuple-is ns at below =
    let inside : at < product (extents_of (copy_shape ns)) = omega (arith, below, ap product (extents-back ns)) in
    elements-get (copy_shape ns) at [] inside ∙ ap (λ es. index_at (map (λ e. pos 1) ns) (place_at es at)) (extents-back ns)

pub positions-are : (ns : List ℕ) (at : ℕ) → at < product ns → ArePositions ns (element_index (copy_shape ns) at)
positions-are ns at below = subst (ArePositions ns) (sym (tuple-is ns at below)) (record {
  rank = ones-length ns (place_at ns at) (length-place_at ns at);
  each = λ k lt.
      let p = place-below ns at k (factors_some ns (omega (arith, below))) lt in
      (1 + get_or (place_at ns at) k 0, omega arith, omega (arith, p), position-get ns (place_at ns at) k (length-place_at ns at) lt);
})

-- ---- owners

module _ (layout : Layout) (ns : List ℕ) (xs : List AlignDim) (good : is_good layout.shape ns xs ≡ true) (at : ℕ) (below : at < space_count ns) where
  abbrev ps : List ℤ
  ps = element_index (copy_shape ns) at

  small : at < product ns
  small = omega (arith, below, (counted ns (not-true (space_count ns == 0) (and_parts _ _ good).0)).0)

  inside : are_inside ns layout.shape.lower layout.shape.extent xs ≡ true
  inside = (and_parts (are_inside ns layout.shape.lower layout.shape.extent xs) (are_apart xs) (and_parts _ _ good).1).0

  are : ArePositions ns ps
  are = positions-are ns at small

  abbrev subscripts : List ℤ
  subscripts = map (subscript_by ps) xs

  place : IsPlace (extents_of layout.shape) (places_of layout.shape.lower (map (subscript_by ps) xs))
      × (index_at layout.shape.lower (places_of layout.shape.lower (map (subscript_by ps) xs)) ≡ map (subscript_by ps) xs)
  place = element-place ns ps are layout.shape.lower layout.shape.extent xs inside

  abbrev k : ℕ
  k = number_of (extents_of layout.shape) (places_of layout.shape.lower subscripts)

  there : k < product (extents_of layout.shape)
  there = number_of-below (extents_of layout.shape) (places_of layout.shape.lower subscripts) place.0

  pub k-below : k < size_of layout
  unfolding size_of
  k-below = there

  pub element-is : element_index layout.shape k ≡ subscripts
  element-is =
      elements-get layout.shape k [] there
      ∙ ap (index_at layout.shape.lower) (place_at-number_of (extents_of layout.shape) (places_of layout.shape.lower subscripts) place.0)
      ∙ place.1

  owns-is : (node : ℕ) → owns (composed layout.mapping (map (settled ns) xs)) ps node ≡ owns layout.mapping subscripts node
  owns-is node =
      owns_at-composed layout.mapping (map (settled ns) xs) (map Some ps) node
      ∙ ap (λ given. owns_at layout.mapping given node) (all-aligned ns ps are layout.shape.lower layout.shape.extent xs inside)

  pub owned-is : (node : ℕ) → owned_by (beside layout ns xs) node at ≡ owned_by layout node k
  owned-is node =
      owned-inside (beside layout ns xs) node at (omega (arith, small, beside-size layout ns xs))
      ∙ owns-is node
      ∙ ap (λ is. owns layout.mapping is node) (sym element-is)
      ∙ sym (owned-inside layout node k k-below)

pub lie-beside : (layout : Layout) (ns : List ℕ) (xs : List AlignDim) (at : ℕ) → is_good layout.shape ns xs ≡ true → at < space_count ns
    → (k : ℕ) × (k < size_of layout) × (element_index layout.shape k ≡ map (subscript_by (element_index (copy_shape ns) at)) xs)
    × ((node : ℕ) → owned_by (beside layout ns xs) node at ≡ owned_by layout node k)
lie-beside layout ns xs at good below =
    (k layout ns xs good at below, k-below layout ns xs good at below, element-is layout ns xs good at below, owned-is layout ns xs good at below)

-- ---- each has one

row-size : (layouts : List Layout) (row : ℕ) (layout : Layout) → slice_get layouts row ≡ Some layout → get_or (sizes layouts) row 0 ≡ size_of layout
row-size [] row layout e = absurd cc
row-size (l ∷ ls) zero layout e = let s : l ≡ layout = cc in ap size_of s
row-size (l ∷ ls) (suc row) layout e = row-size ls row layout e

row-owned : (layouts : List Layout) (row : ℕ) (layout : Layout) → slice_get layouts row ≡ Some layout → (node at : ℕ) → owned_in layouts row node at ≡ owned_by layout node at
row-owned [] row layout e node at = absurd cc
row-owned (l ∷ ls) zero layout e node at = let s : l ≡ layout = cc in ap (λ x. owned_by x node at) s
row-owned (l ∷ ls) (suc row) layout e node at = row-owned ls row layout e node at

pub are-dealt : (nodes : ℕ) (layouts : List Layout) (anchor : Option Anchor) (ns : List ℕ) → 1 ≤ nodes → AreOwned nodes layouts
    → IsDealt nodes (aligned_layout nodes layouts anchor ns)
are-dealt nodes layouts None ns some owned = copy-dealt nodes ns some
are-dealt nodes layouts (Some anchor) ns some owned = by_row (slice_get layouts anchor.row) refl
  where
    by_test : (layout : Layout) → slice_get layouts anchor.row ≡ Some layout → (t : Bool) → is_good layout.shape (copy_extents ns) anchor.subscripts ≡ t
        → IsDealt nodes (if t then beside layout (copy_extents ns) anchor.subscripts else copy_layout nodes ns)
    by_test layout here true good = λ at below.
        let es : List ℕ = copy_extents ns in
        let xs : List AlignDim = anchor.subscripts in
        let count : space_count es ≡ product es = (counted es (not-true (space_count es == 0) (and_parts _ _ good).0)).0 in
        let h = lie-beside layout es xs at good (omega (arith, below, beside-size layout es xs, count)) in
        let owner = owned (record { row = anchor.row; at = h.0 }) (let z = h.1 in omega (arith, z, row-size layouts anchor.row layout here)) in
        (owner.0, owner.1, h.3 owner.0 ∙ sym (row-owned layouts anchor.row layout here owner.0 h.0) ∙ owner.2)
    by_test layout here false bad = copy-dealt nodes ns some

    by_row : (o : Option Layout) → slice_get layouts anchor.row ≡ o → IsDealt nodes (lies_by nodes (copy_extents ns) anchor.subscripts o)
    by_row None e = copy-dealt nodes ns some
    by_row (Some layout) e = by_test layout e (is_good layout.shape (copy_extents ns) anchor.subscripts) refl
