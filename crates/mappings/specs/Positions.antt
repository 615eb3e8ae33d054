-- Of a promise.
-- Positions of a dimension, and the elements that stand there.
use Rattle.std.specs.Prelude.{ℕ, ◌+◌, ◌-◌, Bool, ◌&&◌, nat_le, List}
use Rattle.std.specs.List.{range_with_len}

-- the positions from first to last, ascending; none where last is below first
abbrev pub section : ℕ → ℕ → List ℕ
section first last = range_with_len first (last + 1 - first)

-- the position stands in the section
abbrev pub in_section : ℕ → ℕ → ℕ → Bool
in_section first last position = nat_le first position && nat_le position last

-- the positions of a dimension of this extent, in array-element order (Fortran 95, 6.2.2.2)
abbrev pub positions : ℕ → List ℕ
positions extent = section 1 extent
