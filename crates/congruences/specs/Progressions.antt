-- Of a promise.
-- Arithmetic progressions of integers.
use Rattle.std.specs.Prelude.{◌≡◌, ℕ, ◌-◌, ◌<◌, ◌≤◌, ℤ, pos, neg_ℤ, ◌+ℤ◌, ◌*ℤ◌, ◌≤ℤ◌, Option, Some, None}
use Rattle.congruences.specs.declared.progressions.Progression.{Progression}

-- x is a member of the progression
abbrev pub IsMember : Progression → ℤ → Type 0
IsMember p x = (n : ℕ) × (n < p.count) × (x ≡ (p.first +ℤ (p.stride *ℤ pos n)))

-- an ascending progression with a member, whose members are at most 2^62 in magnitude. Two of them differ by at most 2^63, so no stride
-- between two members is greater
pub record IsProgression (p : Progression) : Type 0 where
  pub ascends : pos 1 ≤ℤ p.stride
  pub steps : p.stride ≤ℤ pos 9223372036854775808
  pub some : 1 ≤ p.count
  pub low : neg_ℤ (pos 4611686018427387904) ≤ℤ p.first
  pub high : (p.first +ℤ (p.stride *ℤ pos (p.count - 1))) ≤ℤ pos 4611686018427387904

-- the common members of two progressions, as one, or none. The stride of a single member is 1, so there is one answer
abbrev pub AreCommon : Progression → Progression → Option Progression → Type 0
AreCommon p q None = (x : ℤ) → IsMember p x → IsMember q x → ⊥
AreCommon p q (Some r) = IsProgression r × (r.count ≡ 1 → r.stride ≡ pos 1)
    × ((x : ℤ) → (IsMember r x → IsMember p x × IsMember q x) × (IsMember p x × IsMember q x → IsMember r x))
