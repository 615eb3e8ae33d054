-- Of private clauses.
-- Progressions seen from a number at or before their first members. Only private contracts cite this file.
use Rattle.std.specs.Prelude.{◌≡◌, ℕ, ◌+◌, ◌-◌, ◌*◌, ◌≤◌, ℤ, pos, ◌+ℤ◌}
use Rattle.congruences.specs.declared.natural_meeting.NaturalProgression.{NaturalProgression}
use Rattle.congruences.specs.declared.progressions.Progression.{Progression}

-- the members of p are those of r, each behind the base
pub record IsShifted (p : Progression) (base : ℤ) (r : NaturalProgression) : Type 0 where
  pub first : p.first ≡ (base +ℤ pos r.first)
  pub stride : p.stride ≡ pos r.stride
  pub count : p.count ≡ r.count

-- the last member
abbrev pub last_of : NaturalProgression → ℕ
last_of r = r.first + r.stride * (r.count - 1)

-- a progression whose numbers fit a progression of integers, with stride 1 where there is one member
pub record IsNarrow (r : NaturalProgression) : Type 0 where
  pub first : r.first ≤ 9223372036854775808
  pub steps : r.stride ≤ 9223372036854775808
  pub count : r.count ≤ 9223372036854775809
  pub one : r.count ≡ 1 → r.stride ≡ 1
