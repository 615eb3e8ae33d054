-- Quotients of 128 bits.
use Rattle.std.proofs.Common.{◌≡◌, ℕ, zero, suc, ◌/◌, ◌^◌, ◌<◌, ◌≤◌, ℤ, pos, negsuc, neg_ℤ, ◌≤ℤ◌, FitsSigned, of_z, unsigned_abs, int_div, refl, arith}
use Rattle.std.proofs.Math.Nat.{div-le_self}
use Rattle.std.proofs.lemmas.Int.{fits_signed_from_abs, ints}
use Rattle.std.specs.Int.{w128}

negated_size : (n : ℕ) → unsigned_abs (neg_ℤ (pos n)) ≡ n
negated_size zero = refl
negated_size (suc n) = refl

quotient_size : (a b : ℤ) → unsigned_abs (int_div a b) ≤ unsigned_abs a
quotient_size (pos a) (pos b) = div-le_self a b
quotient_size (pos a) (negsuc b) = omega (arith, negated_size (a / suc b), div-le_self a (suc b))
quotient_size (negsuc a) (pos b) = omega (arith, negated_size (suc a / b), div-le_self (suc a) b)
quotient_size (negsuc a) (negsuc b) = div-le_self (suc a) (suc b)

size : (a : ℤ) → neg_ℤ (pos (2 ^ 66)) ≤ℤ a → a ≤ℤ pos (2 ^ 66) → unsigned_abs a ≤ 2 ^ 66
size (pos n) least most = omega (arith, ints)
size (negsuc n) least most = omega (arith, ints)

pub quotient_fits : (a b : ℤ) → neg_ℤ (pos (2 ^ 66)) ≤ℤ a → a ≤ℤ pos (2 ^ 66) → FitsSigned w128 (int_div a b)
quotient_fits a b least most =
    let q : unsigned_abs (int_div a b) ≤ unsigned_abs a = quotient_size a b in
    let s : unsigned_abs a ≤ 2 ^ 66 = size a least most in
    fits_signed_from_abs w128 (int_div a b) (omega (arith, q, s))

pub nonzero : (z : ℤ) → FitsSigned w128 z → (z ≡ pos 0 → ⊥) → 0 < of_z w128 z
nonzero (pos zero) fits some = absurd (some refl)
nonzero (pos (suc n)) fits some = omega arith
nonzero (negsuc n) fits some = let f = fits.sfits in omega (arith, f)
