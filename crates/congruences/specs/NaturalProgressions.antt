-- Of private clauses.
-- Arithmetic progressions of natural numbers. Only private contracts cite this file.
use Rattle.std.specs.Prelude.{◌≡◌, ℕ, ◌+◌, ◌*◌, ◌<◌, ◌≤◌, Option, Some, None}
use Rattle.congruences.specs.declared.natural_meeting.NaturalProgression.{NaturalProgression}

-- x is a member of the progression
abbrev pub IsNaturalMember : NaturalProgression → ℕ → Type 0
IsNaturalMember p x = (n : ℕ) × (n < p.count) × (x ≡ p.first + p.stride * n)

-- what keeps all sums and products of a meeting within 128 bits
pub record IsNaturalProgression (p : NaturalProgression) : Type 0 where
  pub stride : 1 ≤ p.stride
  pub count : 1 ≤ p.count
  pub small : p.first ≤ 9223372036854775808
  pub small_stride : p.stride ≤ 9223372036854775808
  pub small_count : p.count ≤ 18446744073709551616

-- the common members of two progressions, as one, or none
abbrev pub AreCommonNaturals : NaturalProgression → NaturalProgression → Option NaturalProgression → Type 0
AreCommonNaturals p q None = (x : ℕ) → IsNaturalMember p x → IsNaturalMember q x → ⊥
AreCommonNaturals p q (Some r) = (1 ≤ r.count) × (1 ≤ r.stride)
    × ((x : ℕ) → (IsNaturalMember r x → IsNaturalMember p x × IsNaturalMember q x) × (IsNaturalMember p x × IsNaturalMember q x → IsNaturalMember r x))
