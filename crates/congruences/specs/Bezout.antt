-- Of a promise.
-- The greatest common divisor of two integers, as a sum of multiples of them.
use Rattle.std.specs.Int.{IsGcd}
use Rattle.std.specs.Prelude.{unsigned_abs, ◌≡◌, ℕ, pos, ℤ, ◌+ℤ◌, ◌*ℤ◌}
use Rattle.congruences.specs.declared.bezout.Bezout.{Bezout}

-- g is the greatest common divisor of a and b, and a * x + b * y
abbrev pub IsBezout : ℤ → ℤ → Bezout → Type 0
IsBezout a b r = (n : ℕ) × (r.g ≡ pos n) × IsGcd (unsigned_abs a) (unsigned_abs b) n × (((a *ℤ r.x) +ℤ (b *ℤ r.y)) ≡ r.g)
