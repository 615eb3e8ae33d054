-- The subscripts of sections.
use Rattle.std.proofs.Common.{◌≡◌, ℕ, zero, suc, ◌+◌, ◌-◌, ◌*◌, ◌/◌, ◌%◌, ◌<◌, ◌≤◌, Bool, true, false, ◌&&◌, ◌||◌, List, [], ◌∷◌, ℤ, pos, negsuc, ◌+ℤ◌, ◌-ℤ◌, ◌*ℤ◌, ◌≤ℤ◌, neg_ℤ, unsigned_abs, nat_le, slice_index_or, w64, refl, sym, ◌∙◌, ap, subst, arith, if◌then◌else◌}
use Rattle.std.proofs.lemmas.Int.{ints, int_wrap_fits, SFits-int_wrap, fits_signed_from_abs}
use Rattle.std.proofs.lemmas.Bool.{leb-true, le-leb}
use Rattle.std.proofs.lemmas.Bool.Decides.{Decides-int_eq}
use Rattle.std.proofs.lemmas.Nat.{div_below}
use Rattle.std.proofs.Math.IntN.{pos-*ℤ-pos, negsuc-*ℤ-pos, *ℤ_comm, zero-*ℤ, *ℤ-zero}
use Rattle.std.proofs.Math.Nat.{mul-le-mul_left, mod-lt}
use Rattle.hpf_base.specs.ElementOrder.{product}
use Rattle.hpf_base.proofs.Integers.{within_magnitude}
use Rattle.op_tables.specs.Operators.{wrapped, is_zero}
use Rattle.array_meaning.specs.declared.sections.Sequence.{Sequence}
use Rattle.array_meaning.specs.declared.sections.Selection.{Selection}
use Rattle.array_meaning.specs.declared.sections.Selection.TheVariants.{At, Along}
use Rattle.array_meaning.specs.Sections.{nth, subscripts_at, positions}
use Rattle.axis_products.specs.Products.{places_at}
use Rattle.axis_products.proofs.Products.{some_factor}
use Rattle.courses.specs.Courses.{Fixed, Moving, course_at, courses_at, is_small, are_small, along, section_courses, is_section_small}
use Rattle.courses.specs.StraightForms.{AllFit}

pub both : (a b : Bool) → (a && b) ≡ true → (a ≡ true) × (b ≡ true)
both true true e = (refl, refl)
both true false e = absurd cc
both false b e = absurd cc

zero-is : (z : ℤ) → is_zero z ≡ true → z ≡ pos 0
zero-is z e = (Decides-int_eq z (pos 0)).0 e

pub small : (z : ℤ) → is_small z ≡ true → wrapped z ≡ z
small z e = int_wrap_fits w64 z (fits_signed_from_abs w64 z (let h = leb-true (unsigned_abs z) 4611686018427387903 e in omega (arith, h)))

within : (z : ℤ) (n : ℕ) → neg_ℤ (pos n) ≤ℤ z → z ≤ℤ pos n → unsigned_abs z ≤ n
within (pos m) n low high = omega (arith, ints, low, high)
within (negsuc m) n low high = omega (arith, ints, low, high)

-- all between two small ends are small
pub between : (first step : ℤ) (m k : ℕ) → k ≤ m → is_small first ≡ true → is_small (first +ℤ (step *ℤ pos m)) ≡ true → is_small (first +ℤ (step *ℤ pos k)) ≡ true
between first (pos s) m k le a b =
    let p : pos s *ℤ pos m ≡ pos (s * m) = pos-*ℤ-pos s m in
    let q : pos s *ℤ pos k ≡ pos (s * k) = pos-*ℤ-pos s k in
    let h : s * k ≤ s * m = mul-le-mul_left s le in
    let la = within_magnitude first 4611686018427387903 (leb-true (unsigned_abs first) 4611686018427387903 a) in
    let lb = within_magnitude (first +ℤ (pos s *ℤ pos m)) 4611686018427387903 (leb-true (unsigned_abs (first +ℤ (pos s *ℤ pos m))) 4611686018427387903 b) in
    let a0 : neg_ℤ (pos 4611686018427387903) ≤ℤ first = la.0 in
    let b1 : (first +ℤ (pos s *ℤ pos m)) ≤ℤ pos 4611686018427387903 = lb.1 in
    let c1 : (first +ℤ pos (s * m)) ≤ℤ pos 4611686018427387903 = subst (λ y. (first +ℤ y) ≤ℤ pos 4611686018427387903) p b1 in
    let low : neg_ℤ (pos 4611686018427387903) ≤ℤ (first +ℤ pos (s * k)) = omega (arith, ints, a0) in
    let high : (first +ℤ pos (s * k)) ≤ℤ pos 4611686018427387903 = omega (arith, ints, c1, h) in
    subst (λ y. is_small (first +ℤ y) ≡ true) (sym q)
    (le-leb (unsigned_abs (first +ℤ pos (s * k))) 4611686018427387903 (within (first +ℤ pos (s * k)) 4611686018427387903 low high))
between first (negsuc s) m k le a b =
    let p : negsuc s *ℤ pos m ≡ neg_ℤ (pos (suc s * m)) = negsuc-*ℤ-pos s m in
    let q : negsuc s *ℤ pos k ≡ neg_ℤ (pos (suc s * k)) = negsuc-*ℤ-pos s k in
    let h : suc s * k ≤ suc s * m = mul-le-mul_left (suc s) le in
    let la = within_magnitude first 4611686018427387903 (leb-true (unsigned_abs first) 4611686018427387903 a) in
    let lb = within_magnitude (first +ℤ (negsuc s *ℤ pos m)) 4611686018427387903 (leb-true (unsigned_abs (first +ℤ (negsuc s *ℤ pos m))) 4611686018427387903 b) in
    let a1 : first ≤ℤ pos 4611686018427387903 = la.1 in
    let b0 : neg_ℤ (pos 4611686018427387903) ≤ℤ (first +ℤ (negsuc s *ℤ pos m)) = lb.0 in
    let c0 : neg_ℤ (pos 4611686018427387903) ≤ℤ (first +ℤ neg_ℤ (pos (suc s * m))) = subst (λ y. neg_ℤ (pos 4611686018427387903) ≤ℤ (first +ℤ y)) p b0 in
    let high : (first +ℤ neg_ℤ (pos (suc s * k))) ≤ℤ pos 4611686018427387903 = omega (arith, ints, a1) in
    let low : neg_ℤ (pos 4611686018427387903) ≤ℤ (first +ℤ neg_ℤ (pos (suc s * k))) = omega (arith, ints, c0, h) in
    subst (λ y. is_small (first +ℤ y) ≡ true) (sym q)
    (le-leb (unsigned_abs (first +ℤ neg_ℤ (pos (suc s * k)))) 4611686018427387903 (within (first +ℤ neg_ℤ (pos (suc s * k))) 4611686018427387903 low high))

-- what moves along an axis
pub along-is : (places : List ℕ) (axis n : ℕ) (first step : ℤ) → slice_index_or places axis 0 ≤ n - 1
    → course_at places (along axis n first step) ≡ first +ℤ (step *ℤ pos (slice_index_or places axis 0))
along-is places axis n first step below = by_one (nat_le n 1) refl
  where
    still : (d : ℤ) → d ≡ pos 0 → first ≡ first +ℤ d
    still d e = omega (arith, ints, e)

    by_zero : (b : Bool) → is_zero step ≡ b → course_at places (if b then Fixed first else Moving axis first step) ≡ first +ℤ (step *ℤ pos (slice_index_or places axis 0))
    by_zero false e = refl
    by_zero true e =
        still (step *ℤ pos (slice_index_or places axis 0))
        (ap (λ s. s *ℤ pos (slice_index_or places axis 0)) (zero-is step e) ∙ zero-*ℤ (pos (slice_index_or places axis 0)))

    by_one : (b : Bool) → nat_le n 1 ≡ b
        → course_at places (if b || is_zero step then Fixed first else Moving axis first step) ≡ first +ℤ (step *ℤ pos (slice_index_or places axis 0))
    by_one false e = by_zero (is_zero step) refl
    by_one true e =
        let h = leb-true n 1 e in
        let none : slice_index_or places axis 0 ≡ 0 = omega (arith, h, below) in
        still (step *ℤ pos (slice_index_or places axis 0)) (ap (λ k. step *ℤ pos k) none ∙ *ℤ-zero step)

-- no place is past its extent
pub shifted : (p : Sequence) (k : ℕ) → nth p (pos (suc k)) ≡ p.first +ℤ (p.step *ℤ pos k)
shifted p k =
    let one : pos (suc k) -ℤ pos 1 ≡ pos k = omega (arith, ints) in
    ap (λ y. p.first +ℤ (y *ℤ p.step)) one ∙ ap (λ y. p.first +ℤ y) (*ℤ_comm (pos k) p.step)

-- what is left of the axes
abbrev Left : List ℕ → ℕ → List ℕ → Type 0
Left all axis rest = (k : ℕ) → slice_index_or all (axis + k) 0 ≡ slice_index_or rest k 0

triplet : (all : List ℕ) (axis n : ℕ) (p : Sequence) (k : ℕ) → slice_index_or all axis 0 ≡ k → k < n → are_small n p.first p.step ≡ true
    → wrapped (nth p (pos (suc k))) ≡ course_at all (along axis n p.first p.step)
triplet all axis n p k is below e =
    let ends = both (is_small p.first) (is_small (p.first +ℤ (p.step *ℤ pos (n - 1)))) e in
    let inside : k ≤ n - 1 = omega (arith, below) in
    let fits = between p.first p.step (n - 1) k inside ends.0 ends.1 in
    ap wrapped (shifted p k) ∙ small (p.first +ℤ (p.step *ℤ pos k)) fits
    ∙ sym (along-is all axis n p.first p.step (subst (λ j. j ≤ n - 1) (sym is) inside) ∙ ap (λ j. p.first +ℤ (p.step *ℤ pos j)) is)

walk : (all : List ℕ) (axis : ℕ) (ns : List ℕ) (ds : List Selection) (t : ℕ) → t < product ns → Left all axis (places_at ns t) → is_section_small ns ds ≡ true
    → subscripts_at ds (positions ns t) ≡ courses_at all (section_courses axis ns ds)
walk all axis ns [] t below left e = refl
walk all axis ns (At i ∷ ds) t below left e = ap (λ is. i ∷ is) (walk all axis ns ds t below left (both (is_small i) (is_section_small ns ds) e).1)
walk all axis [] (Along p ∷ ds) t below left e = ap (λ is. p.first ∷ is) (walk all axis [] ds t below left (both (is_small p.first) (is_section_small [] ds) e).1)
walk all axis (n ∷ ns) (Along p ∷ ds) t below left e =
    let some : 0 < n = some_factor n (product ns) t below in
    let row : t / n < product ns = div_below t n (product ns) some (omega (arith, below)) in
    let place : t % n < n = mod-lt t some in
    let fits = both (are_small n p.first p.step) (is_section_small ns ds) e in
    let here : axis + 0 ≡ axis = omega arith in
    ap (λ i. i ∷ subscripts_at ds (positions ns (t / n))) (triplet all axis n p (t % n) (sym (ap (λ a. slice_index_or all a 0) here) ∙ left 0) place fits.0)
    ∙ ap (λ is. course_at all (along axis n p.first p.step) ∷ is)
    (walk all (axis + 1) ns ds (t / n) row (λ k. ap (λ a. slice_index_or all a 0) (more axis k) ∙ left (suc k)) fits.1)
  where
    more : (a k : ℕ) → a + 1 + k ≡ a + suc k
    more a k = omega arith

pub sections : (ns : List ℕ) (ds : List Selection) (t : ℕ) → t < product ns → is_section_small ns ds ≡ true
    → subscripts_at ds (positions ns t) ≡ courses_at (places_at ns t) (section_courses 0 ns ds)
sections ns ds t below e = walk (places_at ns t) 0 ns ds t below (λ k. ap (λ a. slice_index_or (places_at ns t) a 0) (none k)) e
  where
    none : (k : ℕ) → 0 + k ≡ k
    none k = omega arith

wrapped-wrapped : (z : ℤ) → wrapped (wrapped z) ≡ wrapped z
wrapped-wrapped z = int_wrap_fits w64 (wrapped z) (SFits-int_wrap w64 z)

pub fitting : (ns : List ℕ) (ds : List Selection) (t : ℕ) → t < product ns → is_section_small ns ds ≡ true → AllFit (subscripts_at ds (positions ns t))
fitting ns [] t below e zero = small (pos 0) refl
fitting ns [] t below e (suc k) = small (pos 0) refl
fitting ns (At i ∷ ds) t below e zero = small i (both (is_small i) (is_section_small ns ds) e).0
fitting ns (At i ∷ ds) t below e (suc k) = fitting ns ds t below (both (is_small i) (is_section_small ns ds) e).1 k
fitting [] (Along p ∷ ds) t below e zero = small p.first (both (is_small p.first) (is_section_small [] ds) e).0
fitting [] (Along p ∷ ds) t below e (suc k) = fitting [] ds t below (both (is_small p.first) (is_section_small [] ds) e).1 k
fitting (n ∷ ns) (Along p ∷ ds) t below e zero = wrapped-wrapped (nth p (pos (suc (t % n))))
fitting (n ∷ ns) (Along p ∷ ds) t below e (suc k) =
    fitting ns ds (t / n) (div_below t n (product ns) (some_factor n (product ns) t below) (omega (arith, below)))
    (both (are_small n p.first p.step) (is_section_small ns ds) e).1 k
