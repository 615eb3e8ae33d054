-- Copies beside arrays are valid layouts.
use Rattle.std.proofs.Common.{◌≡◌, ℕ, zero, suc, ◌<◌, ◌≤◌, ◌==◌, Bool, true, false, not, if◌then◌else◌, nat_le, nat_lt, ℤ, pos, ◌+ℤ◌, ◌*ℤ◌, List, [], ◌∷◌, length, map, get_or, Option, option_map, Some, None, refl, sym, ◌∙◌, ap, subst, arith, eq-eqb, All, AllPairs}
use Rattle.std.specs.List.{list_all}
use Rattle.std.proofs.lemmas.Bool.{and_parts, false≢true, not-true, ltb-true}
use Rattle.std.proofs.lemmas.List.{get_or_default, length-map}
use Rattle.std.proofs.lemmas.List.Elements.{All-cons, All-map, All-nil}
use Rattle.mappings.specs.declared.mapping.AlignDim.{AlignDim}
use Rattle.mappings.specs.declared.mapping.AlignDim.TheVariants.{Linear, At, Every}
use Rattle.mappings.specs.declared.mapping.MapDim.{MapDim}
use Rattle.mappings.specs.Alignment.{align_through, aligned, composed, composed_align, composed_entry}
use Rattle.mappings.specs.Mapping.{FitsAlign, InLine, IsAlign, IsMapping, MapsInside, MoveApart, moves_along}
use Rattle.align_map.proofs.ComposedLaws.{IsMapping-composed}
use Rattle.hpf_base.specs.declared.limits.TheConstants.{MAX_ELEMENTS}
use Rattle.hpf_base.specs.ElementOrder.{elements, product}
use Rattle.hpf_base.proofs.Elements.{AllPairs-cons, length-elements}
use Rattle.hpf_base.proofs.Integers.{linear_of_linear}
use Rattle.machine_steps.specs.CopyLayout.{copy_shape}
use Rattle.machine_steps.specs.Layout.{Layout, element_index}
use Rattle.machine_steps.specs.Space.{space_count}
use Rattle.aligned_copies.specs.Beside.{are_apart, are_inside, beside, is_good, is_inside, is_one_axis, settled}
use Rattle.aligned_copies.specs.Layouts.{IsLaid}
use Rattle.aligned_copies.proofs.CopyLaws.{extents-back, factors_some, shape-valid}
use Rattle.aligned_copies.proofs.Inside.{ArePositions, all-aligned}
use Rattle.aligned_copies.proofs.Beside.{counted, positions-are}
use Rattle.aligned_copies.proofs.Laid.{composed-fits, maps-inside}

-- ---- what a composed alignment asks

get_or-map_default : {X Y : Type 0} (f : X → Y) (xs : List X) (k : ℕ) (d : X) → get_or (map f xs) k (f d) ≡ f (get_or xs k d)
get_or-map_default f [] k d = refl
get_or-map_default f (x ∷ xs) zero d = refl
get_or-map_default f (x ∷ xs) (suc k) d = get_or-map_default f xs k d

linear-linear : (a b c d : ℤ) (given : Option ℤ)
    → option_map (λ i. ((a *ℤ c) *ℤ i) +ℤ ((a *ℤ d) +ℤ b)) given ≡ option_map (λ i. (a *ℤ i) +ℤ b) (option_map (λ i. (c *ℤ i) +ℤ d) given)
linear-linear a b c d None = refl
linear-linear a b c d (Some i) = ap Some (linear_of_linear a b c d i)

aligned-through : (a b : ℤ) (inner : AlignDim) (subscripts : List (Option ℤ))
    → aligned (align_through a b inner) subscripts ≡ option_map (λ i. (a *ℤ i) +ℤ b) (aligned inner subscripts)
aligned-through a b (Linear dim c d) subscripts = linear-linear a b c d (get_or subscripts dim None)
aligned-through a b (At v) subscripts = refl
aligned-through a b Every subscripts = refl

aligned-composed : (align : List AlignDim) (outer : AlignDim) (subscripts : List (Option ℤ))
    → aligned (composed_align align outer) subscripts ≡ aligned outer (map (λ inner. aligned inner subscripts) align)
aligned-composed align (Linear dim a b) subscripts =
    aligned-through a b (get_or align dim Every) subscripts
    ∙ ap (option_map (λ i. (a *ℤ i) +ℤ b)) (sym (get_or-map_default (λ inner. aligned inner subscripts) align dim Every))
aligned-composed align (At v) subscripts = refl
aligned-composed align Every subscripts = refl

-- ---- subscripts apart

module _ (ns : List ℕ) where
  settled-moves : (x : AlignDim) (k : ℕ) → moves_along (settled ns x) ≡ Some k → moves_along x ≡ Some k
  settled-moves (Linear axis a b) k h = by (nat_le (get_or ns axis 0) 1) h
    where
      by : (t : Bool) → moves_along (if t then At ((a *ℤ pos 1) +ℤ b) else Linear axis a b) ≡ Some k → moves_along (Linear axis a b) ≡ Some k
      by true h = absurd cc
      by false h = h
  settled-moves (At v) k h = h
  settled-moves Every k h = h

  two-apart : (x y : AlignDim) → not (is_one_axis (moves_along x) (moves_along y)) ≡ true → MoveApart (settled ns x) (settled ns y)
  two-apart x y h dim one other = by (moves_along x) (moves_along y) (settled-moves x dim one) (settled-moves y dim other) h
    where
      by : (p q : Option ℕ) → p ≡ Some dim → q ≡ Some dim → not (is_one_axis p q) ≡ true → ⊥
      by p q e f h =
          let same : is_one_axis p q ≡ true = ap (λ r. is_one_axis r q) e ∙ ap (is_one_axis (Some dim)) f ∙ eq-eqb dim dim refl in
          false≢true (sym (ap not same) ∙ h)

  one-apart : (x : AlignDim) (xs : List AlignDim) → list_all (λ y. not (is_one_axis (moves_along x) (moves_along y))) xs ≡ true
      → All (MoveApart (settled ns x)) (map (settled ns) xs)
  one-apart x [] h = All-nil (MoveApart (settled ns x))
  one-apart x (y ∷ ys) h =
      let p = and_parts (not (is_one_axis (moves_along x) (moves_along y))) (list_all (λ y. not (is_one_axis (moves_along x) (moves_along y))) ys) h in
      All-cons (MoveApart (settled ns x)) (settled ns y) (map (settled ns) ys) (two-apart x y p.0) (one-apart x ys p.1)

  all-apart : (xs : List AlignDim) → are_apart xs ≡ true → AllPairs MoveApart (map (settled ns) xs)
  all-apart [] h = λ i j d order within. absurd (omega (arith, within))
  all-apart (x ∷ xs) h =
      let p = and_parts (list_all (λ y. not (is_one_axis (moves_along x) (moves_along y))) xs) (are_apart xs) h in
      AllPairs-cons MoveApart (settled ns x) (map (settled ns) xs) (one-apart x xs p.0) (all-apart xs p.1)

  inside-align : (lower extent : ℤ) (x : AlignDim) → is_inside ns lower extent x ≡ true → IsAlign (length ns) (settled ns x)
  inside-align lower extent (Linear axis a b) h = by (nat_le (get_or ns axis 0) 1)
    where
      by : (t : Bool) → IsAlign (length ns) (if t then At ((a *ℤ pos 1) +ℤ b) else Linear axis a b)
      by true = tt
      by false = ltb-true axis (length ns) (and_parts (nat_lt axis (length ns)) _ h).0
  inside-align lower extent (At v) h = tt
  inside-align lower extent Every h = tt

  all-aligns : (ls es : List ℤ) (xs : List AlignDim) → are_inside ns ls es xs ≡ true → All (IsAlign (length ns)) (map (settled ns) xs) × (length xs ≡ length ls)
  all-aligns [] [] [] h = (All-nil (IsAlign (length ns)), refl)
  all-aligns [] [] (x ∷ xs) h = absurd (false≢true h)
  all-aligns [] (e ∷ es) xs h = absurd (false≢true h)
  all-aligns (l ∷ ls) [] xs h = absurd (false≢true h)
  all-aligns (l ∷ ls) (e ∷ es) [] h = absurd (false≢true h)
  all-aligns (l ∷ ls) (e ∷ es) (x ∷ xs) h =
      let p = and_parts (is_inside ns l e x) (are_inside ns ls es xs) h in
      let rest = all-aligns ls es xs p.1 in
      (All-cons (IsAlign (length ns)) (settled ns x) (map (settled ns) xs) (inside-align l e x p.0) rest.0, ap suc rest.1)

-- ---- the layout

module _ (nodes : ℕ) (layout : Layout) (ns : List ℕ) (xs : List AlignDim) (laid : IsLaid nodes layout) (good : is_good layout.shape ns xs ≡ true)
    (each : All (λ e. e ≤ MAX_ELEMENTS) ns) where
  count : (space_count ns ≡ product ns) × (1 ≤ product ns) × (product ns ≤ MAX_ELEMENTS)
  count = counted ns (not-true (space_count ns == 0) (and_parts _ _ good).0)

  inside : are_inside ns layout.shape.lower layout.shape.extent xs ≡ true
  inside = (and_parts (are_inside ns layout.shape.lower layout.shape.extent xs) (are_apart xs) (and_parts _ _ good).1).0

  apart : are_apart xs ≡ true
  apart = (and_parts (are_inside ns layout.shape.lower layout.shape.extent xs) (are_apart xs) (and_parts _ _ good).1).1

  aligns : All (IsAlign (length ns)) (map (settled ns) xs) × (length xs ≡ length layout.shape.lower)
  aligns = all-aligns ns layout.shape.lower layout.shape.extent xs inside

  target : IsMapping (length xs) layout.mapping
  target = subst (λ n. IsMapping n layout.mapping) (sym aligns.1) laid.mapping

  pub settled-target : IsMapping (length (map (settled ns) xs)) layout.mapping
  settled-target = subst (λ n. IsMapping n layout.mapping) (sym (length-map xs (settled ns))) target

  pub settled-apart : AllPairs MoveApart (map (settled ns) xs)
  settled-apart = all-apart ns xs apart

  pub numbers-fit : All (λ e. FitsAlign (composed_align (map (settled ns) xs) e.align)) layout.mapping.dims
  numbers-fit = composed-fits layout ns xs (factors_some ns count.1) inside laid.inside target

  maps-here : (ps : List ℤ) → ArePositions ns ps → MapsInside (composed layout.mapping (map (settled ns) xs)) ps
  maps-here ps are =
      All-map (λ e. InLine e.line (aligned e.align (map Some ps))) (composed_entry (map (settled ns) xs)) layout.mapping.dims
      (λ k d within.
      let e : MapDim = get_or layout.mapping.dims k d in
      subst (InLine e.line)
      (sym (aligned-composed (map (settled ns) xs) e.align (map Some ps)
      ∙ ap (aligned e.align) (all-aligned ns ps are layout.shape.lower layout.shape.extent xs inside)))
      (maps-inside layout ns xs inside laid.inside ps are k d within))

  pub beside-laid : IsLaid nodes (beside layout ns xs)
  beside-laid = record {
    shape = shape-valid ns each count.2;
    mapping = subst (λ n. IsMapping n (composed layout.mapping (map (settled ns) xs))) (sym (length-map ns (λ e. pos 1)))
        (IsMapping-composed layout.mapping (map (settled ns) xs) (length ns) settled-target settled-apart aligns.0);
    inside = λ k d within.
        let below : k < product ns = omega (arith, within, length-elements (copy_shape ns), ap product (extents-back ns)) in
        subst (MapsInside (composed layout.mapping (map (settled ns) xs))) (get_or_default (elements (copy_shape ns)) k [] d within)
        (maps-here (element_index (copy_shape ns) k) (positions-are ns k below));
    grid = laid.grid;
  }
