-- The element of a row with a tuple's number is what its own courses name at the tuple.
use Rattle.std.proofs.Common.{◌≡◌, ℕ, suc, ◌+◌, ◌*◌, ◌/◌, ◌%◌, ◌<◌, ◌≤◌, ◌^◌, if◌then◌else◌, List, [], ◌∷◌, ◌++◌, append_assoc, All, drop, get_or, length, map, pos, ◌+ℤ◌, ◌-ℤ◌, ◌*ℤ◌, slice_index_or, ◌-◌, ◌⊎◌, inl, inr, Some, None, option_map, option_and_then, refl, sym, ◌∙◌, ap, arith}
use Rattle.std.specs.Prelude.{unsigned_abs}
use Rattle.std.proofs.Math.IntN.{pos-*ℤ-pos}
use Rattle.std.proofs.Math.Nat.{min-eq_left, min-eq_right, mod-lt, mod-add-div}
use Rattle.std.proofs.Math.Seq.{drop-cons}
use Rattle.std.proofs.lemmas.Bool.{cases_lt, lt-ltb}
use Rattle.std.proofs.lemmas.Int.{ints}
use Rattle.std.proofs.lemmas.List.{length-map, map-append}
use Rattle.std.proofs.lemmas.Nat.{div_below}
use Rattle.hpf_base.specs.ElementOrder.{extents_of, product}
use Rattle.expression_rules.specs.declared.dims.Dim.{Dim}
use Rattle.expression_rules.specs.Dims.{AreDims, IsDim, elements, extent}
use Rattle.array_meaning.specs.State.{element_place, if_below, offset}
use Rattle.machine_steps.specs.Layout.{Layout, size_of}
use Rattle.axis_products.specs.Products.{places_at}
use Rattle.axis_products.proofs.Products.{some_factor}
use Rattle.courses.specs.Courses.{Moving, courses_at}
use Rattle.courses.specs.References.{IsAlongAxes, named_spot}
use Rattle.courses.specs.Subscripts.{AxesBelow, shape_of_dims}
use Rattle.course_forms.specs.declared.course.Course.{Course as HeldCourse}
use Rattle.course_forms.specs.Views.{course_of, courses_of}
use Rattle.pair_messages.specs.Counts.{saturated}
use Rattle.pair_messages.specs.Moved.{named_row, row_courses}

offset-own : (d : Dim) (k : ℕ) → k < extent d → offset d (d.lower +ℤ (pos 1 *ℤ pos k)) ≡ Some k
offset-own d k below =
    let p : pos 1 *ℤ pos k ≡ pos (1 * k) = pos-*ℤ-pos 1 k in
    let z : (d.lower +ℤ (pos 1 *ℤ pos k)) -ℤ d.lower ≡ pos k = omega (arith, ints, p) in
    ap (λ y. if_below y (extent d)) z ∙ ap (λ b. if b then Some k else None) (lt-ltb k (extent d) below)

walk : (all : List ℕ) (axis : ℕ) (ds : List Dim) (t : ℕ) → ((k : ℕ) → slice_index_or all (axis + k) 0 ≡ slice_index_or (places_at (map extent ds) t) k 0)
    → t < product (map extent ds) → element_place ds (courses_at all (row_courses axis ds)) ≡ Some t
walk all axis [] t left below = let z : 0 ≡ t = omega (arith, below) in ap Some z
walk all axis (d ∷ ds) t left below =
    let n = extent d in
    let ns = map extent ds in
    let some : 0 < n = some_factor n (product ns) t below in
    let row : t / n < product ns = div_below t n (product ns) some (let c : t < n * product ns = below in omega (arith, c)) in
    let place : t % n < n = mod-lt t some in
    let back : t % n + n * (t / n) ≡ t = mod-add-div t n in
    let here : axis ≡ axis + 0 = omega arith in
    let at : slice_index_or all axis 0 ≡ t % n = ap (λ a. slice_index_or all a 0) here ∙ left 0 in
    ap (λ o. option_and_then (λ k. option_map (λ rest. k + n * rest) (element_place ds (courses_at all (row_courses (axis + 1) ds)))) o)
    (ap (λ p. offset d (d.lower +ℤ (pos 1 *ℤ pos p))) at ∙ offset-own d (t % n) place)
    ∙ ap (λ r. option_map (λ rest. t % n + n * rest) r)
    (walk all (axis + 1) ds (t / n) (λ k. let more : axis + 1 + k ≡ axis + suc k = omega arith in ap (λ a. slice_index_or all a 0) more ∙ left (suc k)) row)
    ∙ ap Some back

pub own-element : (ds : List Dim) (row t : ℕ) → t < product (map extent ds) → named_spot (map extent ds) t (named_row ds row) ≡ Some (record { row = row; at = t })
own-element ds row t below =
    let ns = map extent ds in
    ap (option_map (λ k. record { row = row; at = k }))
    (walk (places_at ns t) 0 ds t (λ k. let none : 0 + k ≡ k = omega arith in ap (λ a. slice_index_or (places_at ns t) a 0) none) below)

-- ---- a course for each dimension

courses-length : (axis : ℕ) (ds : List Dim) → length (row_courses axis ds) ≡ length ds
courses-length axis [] = refl
courses-length axis (d ∷ ds) = ap suc (courses-length (axis + 1) ds)

courses-below : (m axis : ℕ) (ds : List Dim) → axis + length ds ≡ m → AxesBelow m (row_courses axis ds)
courses-below m axis [] is = tt
courses-below m axis (d ∷ ds) is = (omega (arith, is), courses-below m (axis + 1) ds (omega (arith, is)))

pub own-along : (ds : List Dim) (row : ℕ) → IsAlongAxes (length (map extent ds)) (named_row ds row)
own-along ds row = record {
  rank = courses-length 0 ds;
  axes = courses-below (length (map extent ds)) 0 ds (let same : length ds ≡ length (map extent ds) = sym (length-map ds extent) in omega (arith, same));
}

-- the course of one dimension more
pub course_next : (cs : List HeldCourse) (c : HeldCourse) (axis : ℕ) (ds : List Dim) (z : Dim) → axis < length ds → course_of c ≡ Moving axis (get_or ds axis z).lower (pos 1)
    → courses_of (cs ++ c ∷ []) ++ row_courses (axis + 1) (drop (axis + 1) ds) ≡ courses_of cs ++ row_courses axis (drop axis ds)
course_next cs c axis ds z below is =
    let next : suc axis ≡ axis + 1 = omega arith in
    ap (λ l. l ++ row_courses (axis + 1) (drop (axis + 1) ds)) (map-append course_of cs (c ∷ []))
    ∙ append_assoc (courses_of cs) (course_of c ∷ []) (row_courses (axis + 1) (drop (axis + 1) ds))
    ∙ ap (λ x. courses_of cs ++ (x ∷ row_courses (axis + 1) (drop (axis + 1) ds))) is
    ∙ ap (λ l. courses_of cs ++ l)
    (sym (ap (row_courses axis) (drop-cons ds axis z below) ∙ ap (λ k. Moving axis (get_or ds axis z).lower (pos 1) ∷ row_courses (axis + 1) (drop k ds)) next))

-- ---- sizes

extents-are : (ds : List Dim) → map unsigned_abs (map (λ d. pos (extent d)) ds) ≡ map extent ds
extents-are [] = refl
extents-are (d ∷ ds) = ap (λ es. extent d ∷ es) (extents-are ds)

pub own-size : (ds : List Dim) (layout : Layout) → layout.shape ≡ shape_of_dims ds → size_of layout ≡ product (map extent ds)
unfolding size_of
own-size ds layout shape = ap (λ s. product (extents_of s)) shape ∙ ap product (extents-are ds)

pub elements-are : (ds : List Dim) → elements ds ≡ product (map extent ds)
elements-are [] = refl
elements-are (d ∷ ds) = ap (λ n. extent d * n) (elements-are ds)

pub own-few : (ds : List Dim) → AreDims ds → product (map extent ds) ≤ 2 ^ 32
own-few ds are = let few = are.size in let same = elements-are ds in omega (arith, few, same)

-- dimensions whose elements are counted
pub are-dims : (ds : List Dim) (n : ℕ) → All IsDim ds → n ≡ saturated (product (map extent ds)) → n ≤ 1048576 → AreDims ds
are-dims ds n each is few = record {
  each = each;
  size = by_size (cases_lt (product (map extent ds)) (2 ^ 64 - 1));
}
  where
    by_size : (product (map extent ds) < 2 ^ 64 - 1) ⊎ (2 ^ 64 - 1 ≤ product (map extent ds)) → elements ds ≤ 1048576
    by_size (inl less) =
        let same = elements-are ds in
        let value : n ≡ product (map extent ds) = is ∙ min-eq_left (let le : product (map extent ds) ≤ 2 ^ 64 - 1 = omega (arith, less) in le) in
        omega (arith, same, value, few)
    by_size (inr more) = let value : n ≡ 2 ^ 64 - 1 = is ∙ min-eq_right more in absurd (omega (arith, value, few))
