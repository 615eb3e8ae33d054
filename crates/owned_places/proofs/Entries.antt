-- What a mapping gives a subscript that is in bounds lies inside its lines.
use Rattle.std.proofs.Common.{◌≡◌, ℕ, zero, suc, ◌<◌, ◌≤◌, ◌==◌, ◌+◌, ◌*◌, nat_lt, Bool, true, false, cond, if◌then◌else◌, ℤ, pos, negsuc, neg_ℤ, ◌+ℤ◌, ◌-ℤ◌, ◌*ℤ◌, ◌≤ℤ◌, unsigned_abs, FitsSigned, List, length, map, get_or, set, All, Some, None, option_map, refl, sym, ◌∙◌, ap, subst, arith, eqb-true, ltb-true}
use Rattle.std.proofs.lemmas.Int.{fits_signed_from_abs, ints}
use Rattle.std.specs.Int.{w64}
use Rattle.hpf_base.specs.declared.limits.TheConstants.{MAX_BOUND}
use Rattle.hpf_base.proofs.Integers.{within_magnitude}
use Rattle.std.proofs.lemmas.List.{get_or-map, get_or-set_same, length-map, length-set}
use Rattle.std.proofs.lemmas.List.Elements.{All-get_or, All-weaker}
use Rattle.std.specs.Option.{is_some}
use Rattle.hpf_base.specs.ElementOrder.{elements, extents_of, product}
use Rattle.hpf_base.specs.Shape.{IsShape}
use Rattle.hpf_base.specs.declared.index.Shape.{Shape}
use Rattle.mappings.specs.declared.mapping.AlignDim.{AlignDim}
use Rattle.mappings.specs.declared.mapping.AlignDim.TheVariants.{Linear, At, Every}
use Rattle.mappings.specs.declared.mapping.Line.{Line}
use Rattle.mappings.specs.declared.mapping.Mapping.{Mapping}
use Rattle.mappings.specs.Alignment.{aligned}
use Rattle.mappings.specs.Mapping.{InLine, IsMapping, MapsInside}
use Rattle.expression_rules.specs.declared.dims.Dim.{Dim}
use Rattle.expression_rules.specs.Dims.{extent}
use Rattle.array_meaning.specs.State.{if_below, offset}
use Rattle.machine_steps.specs.Layout.{Layout, size_of}
use Rattle.local_address.specs.Runs.{fixed_subscript}
use Rattle.local_address.proofs.SpanLaws.{fixed-inside, inside_element, moved-inside}
use Rattle.owner_tables.specs.Layouts.{IsLaid}
use Rattle.courses.specs.Subscripts.{in_dim, no_dim, shape_of_dims}
use Rattle.owned_places.specs.Dims.{LieInside, given_along, given_alone}

-- where a subscript that is in bounds stands
pub bounds-place : (d : Dim) (i : ℤ) → is_some (offset d i) ≡ true → (n : ℕ) × (n < extent d) × (i ≡ d.lower +ℤ pos n)
bounds-place d i held = by_sign (i -ℤ d.lower) refl held
  where
    by_test : (n : ℕ) (t : Bool) → nat_lt n (extent d) ≡ t → is_some (if t then Some n else None) ≡ true → n < extent d
    by_test n true is some = ltb-true n (extent d) is
    by_test n false is some = absurd cc

    by_sign : (z : ℤ) → i -ℤ d.lower ≡ z → is_some (if_below z (extent d)) ≡ true → (n : ℕ) × (n < extent d) × (i ≡ d.lower +ℤ pos n)
    by_sign (pos n) is some = (n, by_test n (nat_lt n (extent d)) refl some, omega (arith, ints, is))
    by_sign (negsuc n) is some = absurd cc

-- the array has an element with this subscript in the dimension
element-with : (ds : List Dim) (m : Mapping) (k : ℕ) (i : ℤ) → LieInside ds m → k < length ds → in_dim ds k i ≡ true
    → MapsInside m (set (shape_of_dims ds).lower k i)
element-with ds m k i lie within held =
    let shape : Shape = shape_of_dims ds in
    let place = bounds-place (get_or ds k no_dim) i held in
    let inside : k < length shape.lower = omega (arith, within, length-map ds (λ d. d.lower)) in
    let lower : get_or shape.lower k (pos 0) ≡ (get_or ds k no_dim).lower = get_or-map (λ d. d.lower) ds k no_dim (pos 0) within in
    let long : k < length (map (λ d. pos (extent d)) ds) = omega (arith, within, length-map ds (λ d. pos (extent d))) in
    let count : get_or (extents_of shape) k 0 ≡ extent (get_or ds k no_dim) =
    get_or-map unsigned_abs shape.extent k (pos 0) 0 long ∙ ap unsigned_abs (get_or-map (λ d. pos (extent d)) ds k no_dim (pos 0) within) in
    let below : place.0 < get_or (extents_of shape) k 0 = (let b = place.1 in omega (arith, b, count)) in
    let at : get_or shape.lower k (pos 0) +ℤ pos place.0 ≡ i = ap (λ z. z +ℤ pos place.0) lower ∙ sym place.2 in
    subst (λ z. MapsInside m (set shape.lower k z)) at
    (inside_element m shape (set shape.lower k (get_or shape.lower k (pos 0) +ℤ pos place.0)) lie.shape
    (moved-inside shape k place.0 lie.shape lie.some inside below) lie.inside)

-- such a subscript fits 64 bits
pub bounds-fit : (ds : List Dim) (m : Mapping) (k : ℕ) (i : ℤ) → LieInside ds m → k < length ds → in_dim ds k i ≡ true → FitsSigned w64 i
bounds-fit ds m k i lie within held =
    let d = get_or ds k no_dim in
    let place = bounds-place (get_or ds k no_dim) i held in
    let inside : k < length (map (λ d. d.lower) ds) = omega (arith, within, length-map ds (λ d. d.lower)) in
    let long : k < length (map (λ d. pos (extent d)) ds) = omega (arith, within, length-map ds (λ d. pos (extent d))) in
    let low : unsigned_abs (get_or ds k no_dim).lower ≤ MAX_BOUND =
    subst (λ z. unsigned_abs z ≤ MAX_BOUND) (get_or-map (λ d. d.lower) ds k no_dim (pos 0) within) (All-get_or (λ z. unsigned_abs z ≤ MAX_BOUND) _ k (pos 0) inside lie.shape.lower) in
    let most : pos (extent (get_or ds k no_dim)) ≤ℤ pos (2 * MAX_BOUND + 1) =
    subst (λ z. z ≤ℤ pos (2 * MAX_BOUND + 1)) (get_or-map (λ d. pos (extent d)) ds k no_dim (pos 0) within)
    (All-get_or (λ z. (pos 0 ≤ℤ z) × (z ≤ℤ pos (2 * MAX_BOUND + 1))) _ k (pos 0) long lie.shape.extent).1 in
    let magnitude = within_magnitude (get_or ds k no_dim).lower MAX_BOUND low in
    let from : neg_ℤ (pos MAX_BOUND) ≤ℤ (get_or ds k no_dim).lower = magnitude.0 in
    let upto : (get_or ds k no_dim).lower ≤ℤ pos MAX_BOUND = magnitude.1 in
    let below : place.0 < extent (get_or ds k no_dim) = place.1 in
    let at : i ≡ (get_or ds k no_dim).lower +ℤ pos place.0 = place.2 in
    fits_signed_from_abs w64 i (small i (omega (arith, ints, at, from)) (omega (arith, ints, at, upto, below, most)))
  where
    small : (z : ℤ) → neg_ℤ (pos MAX_BOUND) ≤ℤ z → z ≤ℤ pos (3 * MAX_BOUND + 1) → unsigned_abs z < 9223372036854775808
    small (pos n) low high = omega (arith, ints, high)
    small (negsuc n) low high = omega (arith, ints, low)

pub along-inside : (ds : List Dim) (m : Mapping) (k : ℕ) (i : ℤ) → LieInside ds m → k < length ds → in_dim ds k i ≡ true
    → All (λ e. InLine e.line (given_along k i e.align)) m.dims
along-inside ds m k i lie within held =
    All-weaker (λ e. InLine e.line (aligned e.align (map Some index))) (λ e. InLine e.line (given_along k i e.align)) (λ e inside. by_align e.line e.align inside) m.dims
    (element-with ds m k i lie within held)
  where
    lower : List ℤ
    lower = (shape_of_dims ds).lower

    index : List ℤ
    index = set lower k i

    inside : k < length lower
    inside = omega (arith, within, length-map ds (λ d. d.lower))

    there : k < length index
    there = omega (arith, inside, length-set lower k i)

    by_test : (line : Line) (dim : ℕ) (a b : ℤ) (t : Bool) → (dim == k) ≡ t → InLine line (option_map (λ i. (a *ℤ i) +ℤ b) (get_or (map Some index) dim None))
        → InLine line (cond t (Some ((a *ℤ i) +ℤ b)) None)
    by_test line dim a b true is given =
        let at : get_or (map Some index) dim None ≡ Some i =
        ap (λ n. get_or (map Some index) n None) (eqb-true dim k is) ∙ get_or-map Some index k (pos 0) None there ∙ ap Some (get_or-set_same lower k i (pos 0) inside) in
        subst (λ o. InLine line (option_map (λ i. (a *ℤ i) +ℤ b) o)) at given
    by_test line dim a b false is given = tt {0}

    by_align : (line : Line) (align : AlignDim) → InLine line (aligned align (map Some index)) → InLine line (given_along k i align)
    by_align line (Linear dim a b) given = by_test line dim a b (dim == k) refl given
    by_align line (At v) given = tt {0}
    by_align line Every given = tt {0}

pub alone-inside : (ds : List Dim) (m : Mapping) → LieInside ds m → All (λ e. InLine e.line (given_alone e.align)) m.dims
alone-inside ds m lie =
    All-weaker (λ e. InLine e.line (fixed_subscript e.align)) (λ e. InLine e.line (given_alone e.align)) (λ e inside. by_align e.line e.align inside) m.dims
    (fixed-inside m (shape_of_dims ds) lie.shape lie.some (subst (λ n. IsMapping n m) (sym (length-map ds (λ d. d.lower))) lie.mapping) lie.inside)
  where
    by_align : (line : Line) (align : AlignDim) → InLine line (fixed_subscript align) → InLine line (given_alone align)
    by_align line (Linear dim a b) given = tt {0}
    by_align line (At v) given = given
    by_align line Every given = tt {0}

-- from a table
pub lie-inside : (nodes : ℕ) (layout : Layout) (ds : List Dim) → IsLaid nodes layout → layout.shape ≡ shape_of_dims ds → ((size_of layout ≡ 0) → ⊥) → LieInside ds layout.mapping
unfolding size_of
lie-inside nodes layout ds laid is some = record {
  shape = subst IsShape is laid.shape;
  mapping = subst (λ n. IsMapping n layout.mapping) (ap (λ s. length s.lower) is ∙ length-map ds (λ d. d.lower)) laid.mapping;
  some = at-least (product (extents_of (shape_of_dims ds))) (λ none. some (ap (λ s. product (extents_of s)) is ∙ none));
  inside = subst (λ s. All (MapsInside layout.mapping) (elements s)) is laid.inside;
}
  where
    at-least : (n : ℕ) → ((n ≡ 0) → ⊥) → 1 ≤ n
    at-least zero differ = absurd (differ refl)
    at-least (suc n) differ = omega arith
