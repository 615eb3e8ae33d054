-- Of a promise.
-- Congruences of integers, and the greatest common divisor of two.
use Rattle.std.specs.Int.{int_rem_euclid, IsGcd}
use Rattle.std.specs.Prelude.{unsigned_abs, ◌/◌, ◌%◌, ◌≡◌, ℕ, ◌*◌, ◌<◌, ◌≤◌, ℤ, pos, ◌+ℤ◌, ◌*ℤ◌, Option, Some, None}
use Prim.Native.Nat.{◌∣◌}
use Rattle.congruences.specs.Naturals.{IsInverse}

-- a and b differ by a multiple of m
abbrev pub AreCongruent : ℕ → ℤ → ℤ → Type 0
AreCongruent m a b = (s : ℕ) × (t : ℕ) × ((a +ℤ pos (m * s)) ≡ (b +ℤ pos (m * t)))

-- the least x, from 0, with a * x congruent to b by m; None where there is none
abbrev pub IsSolved : ℤ → ℤ → ℕ → Option ℤ → Type 0
IsSolved a b m None = (y : ℕ) → AreCongruent m (a *ℤ pos y) b → ⊥
IsSolved a b m (Some x) = (n : ℕ) × (x ≡ pos n) × (n < m) × AreCongruent m (a *ℤ pos n) b × ((y : ℕ) → AreCongruent m (a *ℤ pos y) b → n ≤ y)

-- the greatest common divisor of a and m divides b
abbrev pub DividesSide : ℤ → ℤ → ℤ → Type 0
DividesSide a b m = (g : ℕ) → IsGcd (unsigned_abs a) (unsigned_abs m) g → g ∣ unsigned_abs b

-- what remains of an integer by n, from 0 to n - 1
abbrev pub residue_of : ℤ → ℕ → ℕ
residue_of z n = unsigned_abs (int_rem_euclid z (pos n))

-- a congruence of integers is solved by what remains of its factor and of its right side
abbrev pub SolvedByRemainders : Type 0
SolvedByRemainders = (a b : ℤ) (n g t u : ℕ) → 0 < n → 0 < t → IsInverse (residue_of a n) n g t u
    → (residue_of b n % g ≡ 0 → IsSolved a b n (Some (pos ((residue_of b n / g * u) % t)))) × ((residue_of b n % g ≡ 0 → ⊥) → IsSolved a b n None)
