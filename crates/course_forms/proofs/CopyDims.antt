-- The dimensions of copies are within the limits.
use Rattle.std.proofs.Common.{◌≡◌, ℕ, zero, suc, ◌+◌, ◌*◌, ◌<◌, ◌≤◌, List, [], ◌∷◌, ◌++◌, append_assoc, length, take, drop, get_or, slice_index_or, pos, ◌+ℤ◌, ◌-ℤ◌, FitsSigned, w64, All, refl, sym, ◌∙◌, ap, subst, arith}
use Rattle.std.proofs.lemmas.Int.{fits_signed_from_abs, ints}
use Rattle.std.proofs.lemmas.List.{map_more, map-append}
use Rattle.std.proofs.lemmas.List.Elements.{All-cons, All-nil}
use Rattle.std.proofs.Math.Nat.{mul-le-mul_left}
use Rattle.std.proofs.Math.Seq.{drop-cons}
use Rattle.hpf_base.specs.ElementOrder.{product}
use Rattle.expression_rules.specs.declared.dims.Dim.{Dim}
use Rattle.expression_rules.specs.Dims.{AreDims, IsDim, at_least_none, elements}
use Rattle.courses.specs.Courses.{Moving}
use Rattle.courses.specs.References.{copy_dims, own_courses}
use Rattle.course_forms.specs.declared.course.Course.{Course as HeldCourse}
use Rattle.course_forms.specs.Views.{course_of, courses_of}

front : (n m : ℕ) → 0 < n * m → n ≤ n * m
front n zero some = absurd (omega (arith, some))
front n (suc m) some = let h : n * 1 ≤ n * suc m = mul-le-mul_left n (omega arith) in omega (arith, h)

rest : (n m : ℕ) → 0 < n * m → (0 < m) × (m ≤ n * m)
rest zero m some = absurd (omega (arith, some))
rest (suc n) zero some = absurd (omega (arith, some))
rest (suc n) (suc m) some = (omega arith, omega arith)

-- no extent is more than the product
pub extent_few : (ns : List ℕ) (k : ℕ) → k < length ns → 0 < product ns → get_or ns k 0 ≤ product ns
extent_few [] k below some = absurd (omega (arith, below))
extent_few (n ∷ ns) zero below some = front n (product ns) some
extent_few (n ∷ ns) (suc k) below some =
    let r = rest n (product ns) some in
    let h = extent_few ns k (omega (arith, below)) r.0 in
    let g = r.1 in
    omega (arith, h, g)

elements-are : (ns : List ℕ) → elements (copy_dims ns) ≡ product ns
elements-are [] = refl
elements-are (n ∷ ns) =
    let m : (pos n -ℤ pos 1) +ℤ pos 1 ≡ pos n = omega (arith, ints) in
    ap (λ y. at_least_none y * elements (copy_dims ns)) m ∙ ap (λ k. n * k) (elements-are ns)

each-small : (ns : List ℕ) → 0 < product ns → product ns ≤ 1048576 → All IsDim (copy_dims ns)
each-small [] some few = All-nil IsDim
each-small (n ∷ ns) some few =
    let f = front n (product ns) some in
    let r = rest n (product ns) some in
    let g = r.1 in
    let small : n ≤ 2199023255552 = omega (arith, f, few) in
    All-cons IsDim (record { lower = pos 1; upper = pos n }) (copy_dims ns) (record { lower = omega arith; upper = small })
    (each-small ns r.0 (omega (arith, g, few)))

pub dims_small : (ns : List ℕ) (ds : List Dim) → 0 < product ns → product ns ≤ 1048576 → ds ≡ copy_dims ns → AreDims ds
dims_small ns ds some few is = subst AreDims (sym is) (record {
  each = each-small ns some few;
  size = (let e = elements-are ns in omega (arith, e, few));
})

-- an extent fits 64 bits
pub extent_fits : (ns : List ℕ) (k : ℕ) → k < length ns → 0 < product ns → product ns ≤ 1048576 → FitsSigned w64 (pos (slice_index_or ns k 0))
extent_fits ns k below some few =
    let h : slice_index_or ns k 0 ≤ product ns = extent_few ns k below some in
    fits_signed_from_abs w64 (pos (slice_index_or ns k 0)) (omega (arith, h, few))

-- the course of one axis more
pub own_next : (axis : ℕ) (ns : List ℕ) → axis < length ns
    → own_courses axis (drop axis ns) ≡ Moving axis (pos 1) (pos 1) ∷ own_courses (axis + 1) (drop (axis + 1) ns)
own_next axis ns below =
    let next : suc axis ≡ axis + 1 = omega arith in
    ap (own_courses axis) (drop-cons ns axis 0 below) ∙ ap (λ k. Moving axis (pos 1) (pos 1) ∷ own_courses (axis + 1) (drop k ns)) next

pub own_step : (cs : List HeldCourse) (c : HeldCourse) (axis : ℕ) (ns : List ℕ) → axis < length ns → course_of c ≡ Moving axis (pos 1) (pos 1)
    → courses_of (cs ++ c ∷ []) ++ own_courses (axis + 1) (drop (axis + 1) ns) ≡ courses_of cs ++ own_courses axis (drop axis ns)
own_step cs c axis ns below is =
    ap (λ l. l ++ own_courses (axis + 1) (drop (axis + 1) ns)) (map-append course_of cs (c ∷ []))
    ∙ append_assoc (courses_of cs) (course_of c ∷ []) (own_courses (axis + 1) (drop (axis + 1) ns))
    ∙ ap (λ x. courses_of cs ++ (x ∷ own_courses (axis + 1) (drop (axis + 1) ns))) is
    ∙ ap (λ l. courses_of cs ++ l) (sym (own_next axis ns below))

-- the dimension of one axis more
pub dims_next : (ns : List ℕ) (i : ℕ) → i < length ns
    → copy_dims (take (i + 1) ns) ≡ copy_dims (take i ns) ++ record { lower = pos 1; upper = pos (slice_index_or ns i 0) } ∷ []
dims_next ns i below = map_more (λ n. record { lower = pos 1; upper = pos n }) ns i 0 below
