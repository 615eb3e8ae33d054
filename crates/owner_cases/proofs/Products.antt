-- Products that fit 64 bits.
use Rattle.std.proofs.Common.{◌≡◌, ℤ, pos, ◌+ℤ◌, ◌*ℤ◌, FitsSigned, subst, arith}
use Rattle.std.specs.Int.{w64}
use Rattle.std.proofs.lemmas.Int.{ints}

pub fits_product : (a b : ℤ) → FitsSigned w64 ((a *ℤ b) +ℤ pos 0) → FitsSigned w64 (a *ℤ b)
fits_product a b fits = let same : (a *ℤ b) +ℤ pos 0 ≡ a *ℤ b = omega (arith, ints) in subst (FitsSigned w64) same fits
