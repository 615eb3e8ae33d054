-- Of a promise.
-- Elements of a row at equal distances, and values put at equal distances.
use Rattle.std.specs.Prelude.{ℕ, ◌+◌, ◌*◌, ℤ, List, [], ◌∷◌, slice_set}
use Rattle.storage.specs.Storage.{Spot}

-- of elements of which each stands so many positions after the one before, from one element on, that of number k, from 0
abbrev pub line_spot : Spot → ℕ → ℕ → Spot
line_spot spot step k = record { row = spot.row; at = spot.at + k * step }

-- a list with values put into it in order, the first at a place and each other so many places after the one before. A value for which there is
-- no place is left out
abbrev pub with_line : List ℤ → ℕ → ℕ → List ℤ → List ℤ
with_line row at step [] = row
with_line row at step (value ∷ values) = with_line (slice_set row at value) (at + step) step values
