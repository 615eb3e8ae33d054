-- Numbers of alignments one after the other: what is far, and what is exact.
use Rattle.std.proofs.Common.{◌≡◌, ℕ, zero, suc, ℤ, pos, negsuc, ◌+◌, ◌*◌, ◌^◌, ◌≤◌, ◌<◌, ◌+ℤ◌, ◌*ℤ◌, ◌≤ℤ◌, neg_ℤ, unsigned_abs, FitsSigned, Bool, true, false, Option, Some, None, refl, sym, ap, subst, ◌∙◌, arith}
use Rattle.std.specs.Prelude.{if◌then◌else◌}
use Rattle.std.proofs.lemmas.Int.{ints, unsigned_abs-mul}
use Rattle.std.proofs.lemmas.Nat.{mul-le}
use Rattle.std.specs.Int.{w64}
use mir.Syntax.{w128}
use Rattle.hpf_base.proofs.Integers.{within_magnitude}
use Rattle.std.proofs.lemmas.Bool.Decides.{Decides-int_eq, nat_tests}
use Rattle.op_tables.specs.Operators.{is_zero}
use Rattle.directive_check.specs.WideAlignments.{advanced, is_far, stays_far}

-- a number is exact, or so great that it stays greater than 64 bits hold through so many more alignments
abbrev pub Stands : ℕ → Option ℤ → ℤ → Type 0
Stands n None z = 9223372036854775809 + n * 2199023255552 ≤ unsigned_abs z
Stands n (Some v) z = v ≡ z

-- a sum is at most so much smaller than one of its parts
abs_sum : (x b s : ℤ) → (x +ℤ b) ≡ s → unsigned_abs x ≤ unsigned_abs s + unsigned_abs b
abs_sum (pos n) (pos m) (pos k) is = omega (arith, ints, is)
abs_sum (pos n) (pos m) (negsuc k) is = omega (arith, ints, is)
abs_sum (pos n) (negsuc m) (pos k) is = omega (arith, ints, is)
abs_sum (pos n) (negsuc m) (negsuc k) is = omega (arith, ints, is)
abs_sum (negsuc n) (pos m) (pos k) is = omega (arith, ints, is)
abs_sum (negsuc n) (pos m) (negsuc k) is = omega (arith, ints, is)
abs_sum (negsuc n) (negsuc m) (pos k) is = omega (arith, ints, is)
abs_sum (negsuc n) (negsuc m) (negsuc k) is = omega (arith, ints, is)

no_smaller : (a z : ℤ) → is_zero a ≡ false → unsigned_abs z ≤ unsigned_abs (a *ℤ z)
no_smaller (pos zero) z some = absurd cc
no_smaller (pos (suc m)) z some = subst (λ k. unsigned_abs z ≤ k) (sym (unsigned_abs-mul (pos (suc m)) z)) (omega arith)
no_smaller (negsuc m) z some = subst (λ k. unsigned_abs z ≤ k) (sym (unsigned_abs-mul (negsuc m) z)) (omega arith)

by_none : (a z b : ℤ) → is_zero a ≡ true → b ≡ (a *ℤ z) +ℤ b
by_none a z b none =
    let nothing : b ≡ (pos 0 *ℤ z) +ℤ b = omega (arith, ints) in
    nothing ∙ ap (λ y. (y *ℤ z) +ℤ b) (sym ((Decides-int_eq a (pos 0)).0 none))

-- what is far before is far after it
stays_stands : (n : ℕ) (a z b : ℤ) → unsigned_abs b ≤ 2199023255552 → 9223372036854775809 + suc n * 2199023255552 ≤ unsigned_abs z → Stands n (stays_far a b) ((a *ℤ z) +ℤ b)
stays_stands n a z b small far = by (is_zero a) refl
  where
    by : (t : Bool) → is_zero a ≡ t → Stands n (if t then Some b else None) ((a *ℤ z) +ℤ b)
    by true none = by_none a z b none
    by false some =
        let most : unsigned_abs (a *ℤ z) ≤ unsigned_abs ((a *ℤ z) +ℤ b) + unsigned_abs b = abs_sum (a *ℤ z) b ((a *ℤ z) +ℤ b) refl in
        let more : unsigned_abs z ≤ unsigned_abs (a *ℤ z) = no_smaller a z some in
        omega (arith, most, more, small, far)

pub advanced_stands : (n : ℕ) (a z b : ℤ) (o : Option ℤ) → n < 1048576 → unsigned_abs b ≤ 2199023255552 → Stands (suc n) o z → Stands n (advanced a o b) ((a *ℤ z) +ℤ b)
advanced_stands n a z b None few small stands = stays_stands n a z b small stands
advanced_stands n a z b (Some v) few small stands = by (is_far v) refl
  where
    by : (t : Bool) → is_far v ≡ t → Stands n (if t then stays_far a b else Some ((a *ℤ v) +ℤ b)) ((a *ℤ z) +ℤ b)
    by true far =
        let great : 13835058055282163712 < unsigned_abs v = grind (arith, nat_tests) in
        let same : unsigned_abs v ≡ unsigned_abs z = ap unsigned_abs stands in
        stays_stands n a z b small (omega (arith, great, same, few))
    by false near = ap (λ y. (a *ℤ y) +ℤ b) stands

-- ---- products of what isn't far

pub magnitude : (z : ℤ) → FitsSigned w64 z → unsigned_abs z ≤ 2 ^ 63
magnitude (pos n) fits = omega (arith, ints)
magnitude (negsuc n) fits = omega (arith, ints)

pub product_between : (a v product : ℤ) → FitsSigned w64 a → is_far v ≡ false → product ≡ a *ℤ v →
    (neg_ℤ (pos (2 ^ 126 + 2 ^ 125)) ≤ℤ product) × (product ≤ℤ pos (2 ^ 126 + 2 ^ 125))
product_between a v product fits near is =
    let small : unsigned_abs v ≤ 13835058055282163712 = grind (arith, nat_tests) in
    let bound : unsigned_abs (a *ℤ v) ≤ 2 ^ 63 * 13835058055282163712 =
    subst (λ n. n ≤ 2 ^ 63 * 13835058055282163712) (sym (unsigned_abs-mul a v))
    (mul-le (unsigned_abs a) (unsigned_abs v) (2 ^ 63) 13835058055282163712 (magnitude a fits) small) in
    subst (λ z. (neg_ℤ (pos (2 ^ 126 + 2 ^ 125)) ≤ℤ z) × (z ≤ℤ pos (2 ^ 126 + 2 ^ 125))) (sym is) (within_magnitude (a *ℤ v) (2 ^ 126 + 2 ^ 125) bound)

pub product_fits : (z : ℤ) → neg_ℤ (pos (2 ^ 126 + 2 ^ 125)) ≤ℤ z → z ≤ℤ pos (2 ^ 126 + 2 ^ 125) → FitsSigned w128 z
product_fits (pos n) least most = record { sfits = omega (arith, ints) }
product_fits (negsuc n) least most = record { sfits = omega (arith, ints) }
