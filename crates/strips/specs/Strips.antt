-- Of a promise.
-- Values of an array expression at tuples that follow one another: a strip of one row, or all tuples of a space.
use Rattle.std.specs.Prelude.{ℕ, suc, ◌+◌, List, ◌∷◌, ℤ, pos, Result}
use Rattle.array_meaning.specs.Elementals.{Elemental, value_at}
use Rattle.array_meaning.specs.Faults.{Cause}
use Rattle.array_meaning.specs.Sections.{positions}
use Rattle.array_meaning.specs.State.{State}

-- the tuples of a row from one on: only the first position moves, and the others are the row's own
abbrev pub row_tuple : ℕ → List ℤ → ℕ → List ℤ
row_tuple u rest k = pos (suc (u + k)) ∷ rest

-- the value at one of them
abbrev pub row_value : State → Elemental → ℕ → List ℤ → ℕ → Result ℤ Cause
row_value s x u rest k = value_at s (row_tuple u rest k) x

-- the value at a tuple of a space
abbrev pub space_value : State → List ℕ → Elemental → ℕ → Result ℤ Cause
space_value s ns x t = value_at s (positions ns t) x
