-- Products of two 64-bit numbers.
use Rattle.std.proofs.Common.{◌≡◌, ◌*◌, ◌^◌, ◌≤◌, ℤ, pos, negsuc, ◌*ℤ◌, ◌≤ℤ◌, unsigned_abs, FitsSigned, sym, subst, arith}
use Rattle.std.proofs.lemmas.Int.{ints, unsigned_abs-mul}
use Rattle.std.proofs.lemmas.Nat.{mul-le}
use Rattle.std.specs.Int.{w64}
use Rattle.hpf_base.proofs.Integers.{within_magnitude}

magnitude : (z : ℤ) → FitsSigned w64 z → unsigned_abs z ≤ 2 ^ 63
magnitude (pos n) fits = omega (arith, ints)
magnitude (negsuc n) fits = omega (arith, ints)

pub product_most : (a b product : ℤ) → FitsSigned w64 a → FitsSigned w64 b → product ≡ a *ℤ b → product ≤ℤ pos (2 ^ 126)
product_most a b product a-fits b-fits is =
    let bound : unsigned_abs (a *ℤ b) ≤ 2 ^ 63 * 2 ^ 63 =
    subst (λ n. n ≤ 2 ^ 63 * 2 ^ 63) (sym (unsigned_abs-mul a b))
    (mul-le (unsigned_abs a) (unsigned_abs b) (2 ^ 63) (2 ^ 63) (magnitude a a-fits) (magnitude b b-fits)) in
    subst (λ z. z ≤ℤ pos (2 ^ 126)) (sym is) (within_magnitude (a *ℤ b) (2 ^ 126) bound).1
