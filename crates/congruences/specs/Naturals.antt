-- Of a promise.
-- Congruences of natural numbers, which the calls work with.
use Rattle.std.specs.Prelude.{◌≡◌, ℕ, ◌+◌, ◌*◌, ◌/◌, ◌%◌, ◌<◌}

-- a and b differ by a multiple of m
abbrev pub AreCongruentNaturals : ℕ → ℕ → ℕ → Type 0
AreCongruentNaturals m a b = (s : ℕ) × (t : ℕ) × (a + m * s ≡ b + m * t)

-- g divides a and m, m is g * t, and a * u is congruent to g by m: so g is their greatest common divisor, and u inverts a / g by t
pub record IsInverse (a m g t u : ℕ) : Type 0 where
  pub some : 0 < g
  pub period : g * t ≡ m
  pub factor : (c : ℕ) × (g * c ≡ a)
  pub inverse : AreCongruentNaturals m (a * u) g

-- a * x is congruent to b by m exactly where g divides b and x has the remainder of b / g * u by t
abbrev pub SolvesBy : Type 0
SolvesBy = (a m g t u b x : ℕ) → 0 < t → IsInverse a m g t u →
    (AreCongruentNaturals m (a * x) b → (b % g ≡ 0) × (x % t ≡ (b / g * u) % t))
    × ((b % g ≡ 0) × (x % t ≡ (b / g * u) % t) → AreCongruentNaturals m (a * x) b)
