-- Counts of values.
use Rattle.std.proofs.Common.{◌≡◌, ◌<◌, ◌≤◌, refl, ℤ, pos, negsuc, ◌<ℤ◌, ◌≤ℤ◌, arith}
use Rattle.std.proofs.lemmas.Int.{ints}
use Rattle.std.specs.Prelude.{unsigned_abs}
use Rattle.expression_rules.specs.Dims.{at_least_none}

pub abs_is : (z : ℤ) → pos 0 ≤ℤ z → unsigned_abs z ≡ at_least_none z
abs_is (pos n) h = refl
abs_is (negsuc n) h = absurd (omega (arith, ints))

pub none_is : (z : ℤ) → z <ℤ pos 0 → 0 ≡ at_least_none z
none_is (pos n) h = absurd (omega (arith, ints))
none_is (negsuc n) h = refl
