-- What is named in copies.
use Rattle.std.proofs.Common.{◌≡◌, ℕ, suc, ◌+◌, ◌*◌, ◌/◌, ◌%◌, ◌<◌, if◌then◌else◌, List, [], ◌∷◌, pos, ◌+ℤ◌, ◌-ℤ◌, ◌*ℤ◌, slice_index_or, Some, None, option_map, option_and_then, refl, sym, ◌∙◌, ap, arith}
use Rattle.std.proofs.lemmas.Bool.{lt-ltb}
use Rattle.std.proofs.lemmas.Int.{ints}
use Rattle.std.proofs.lemmas.Nat.{div_below}
use Rattle.std.proofs.Math.IntN.{pos-*ℤ-pos}
use Rattle.std.proofs.Math.Nat.{mod-lt, mod-add-div}
use Rattle.hpf_base.specs.ElementOrder.{product}
use Rattle.expression_rules.specs.declared.dims.Dim.{Dim}
use Rattle.expression_rules.specs.Dims.{extent, at_least_none}
use Rattle.array_meaning.specs.Sections.{positions}
use Rattle.array_meaning.specs.State.{element_place, offset, if_below}
use Rattle.axis_products.specs.Products.{places_at}
use Rattle.axis_products.proofs.Products.{some_factor}
use Rattle.courses.specs.Courses.{Moving, course_at, courses_at}
use Rattle.courses.specs.References.{copy_dims, named_copy, named_spot, own_courses}

one-more : (k : ℕ) → pos (suc k) ≡ pos 1 +ℤ (pos 1 *ℤ pos k)
one-more k = let p : pos 1 *ℤ pos k ≡ pos (1 * k) = pos-*ℤ-pos 1 k in omega (arith, ints, p)

walk : (all : List ℕ) (axis : ℕ) (ns : List ℕ) (t : ℕ) → ((k : ℕ) → slice_index_or all (axis + k) 0 ≡ slice_index_or (places_at ns t) k 0)
    → positions ns t ≡ courses_at all (own_courses axis ns)
walk all axis [] t left = refl
walk all axis (n ∷ ns) t left =
    let here : axis ≡ axis + 0 = omega arith in
    let place : t % n ≡ slice_index_or all axis 0 = sym (ap (λ a. slice_index_or all a 0) here ∙ left 0) in
    ap (λ i. i ∷ positions ns (t / n)) (one-more (t % n) ∙ ap (λ k. pos 1 +ℤ (pos 1 *ℤ pos k)) place)
    ∙ ap (λ is. course_at all (Moving axis (pos 1) (pos 1)) ∷ is) (walk all (axis + 1) ns (t / n) (λ k. ap (λ a. slice_index_or all a 0) (more axis k) ∙ left (suc k)))
  where
    more : (a k : ℕ) → a + 1 + k ≡ a + suc k
    more a k = omega arith

pub own : (ns : List ℕ) (t : ℕ) → positions ns t ≡ courses_at (places_at ns t) (own_courses 0 ns)
own ns t = walk (places_at ns t) 0 ns t (λ k. ap (λ a. slice_index_or (places_at ns t) a 0) (none k))
  where
    none : (k : ℕ) → 0 + k ≡ k
    none k = omega arith

offset-own : (n k : ℕ) → k < n → offset (record { lower = pos 1; upper = pos n }) (pos (suc k)) ≡ Some k
offset-own n k below =
    let z : pos (suc k) -ℤ pos 1 ≡ pos k = omega (arith, ints) in
    let m : (pos n -ℤ pos 1) +ℤ pos 1 ≡ pos n = omega (arith, ints) in
    ap (λ y. if_below y (extent (record { lower = pos 1; upper = pos n }))) z
    ∙ ap (λ y. if_below (pos k) (at_least_none y)) m
    ∙ ap (λ b. if b then Some k else None) (lt-ltb k n below)

copy-walk : (ns : List ℕ) (t : ℕ) → t < product ns → element_place (copy_dims ns) (positions ns t) ≡ Some t
copy-walk [] t below = let z : 0 ≡ t = omega (arith, below) in ap Some z
copy-walk (n ∷ ns) t below =
    let some : 0 < n = some_factor n (product ns) t below in
    let row : t / n < product ns = div_below t n (product ns) some (omega (arith, below)) in
    let place : t % n < n = mod-lt t some in
    let m : (pos n -ℤ pos 1) +ℤ pos 1 ≡ pos n = omega (arith, ints) in
    let d : Dim = record { lower = pos 1; upper = pos n } in
    let back : t % n + n * (t / n) ≡ t = mod-add-div t n in
    ap (λ o. option_and_then (λ k. option_map (λ rest. k + extent d * rest) (element_place (copy_dims ns) (positions ns (t / n)))) o) (offset-own n (t % n) place)
    ∙ ap (λ r. option_map (λ rest. t % n + extent d * rest) r) (copy-walk ns (t / n) row)
    ∙ ap (λ y. Some (t % n + at_least_none y * (t / n))) m
    ∙ ap Some back

pub copies : (row : ℕ) (ns : List ℕ) (t : ℕ) → t < product ns → named_spot ns t (named_copy ns row) ≡ Some (record { row = row; at = t })
copies row ns t below =
    ap (λ is. option_map (λ k. record { row = row; at = k }) (element_place (copy_dims ns) is)) (sym (own ns t))
    ∙ ap (option_map (λ k. record { row = row; at = k })) (copy-walk ns t below)
