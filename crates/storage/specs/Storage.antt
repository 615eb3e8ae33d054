-- Of the claim.
-- Whole arrays and copies, by row and position.
use Rattle.std.specs.Prelude.{◌≡◌, ℕ, nat_eq, List, [], length, slice_index_or, slice_set, ℤ, pos, Bool, ◌&&◌}

-- the elements of each array and each copy, in element order. There are no nodes and no pieces here
abbrev pub Storage : Type 0
Storage = List (List ℤ)

-- an element: the array or copy by its row, and the position in it, both counted from 0
pub record Spot : Type 0 where
  pub row : ℕ
  pub at : ℕ

-- one row and one position: two elements at one position of different rows aren't one
abbrev pub is_same_spot : Spot → Spot → Bool
is_same_spot one other = nat_eq one.row other.row && nat_eq one.at other.at

-- the elements of one array or copy. Where there is no such row, there are none
abbrev pub row_of : Storage → ℕ → List ℤ
row_of m row = slice_index_or m row []

-- the value at a spot. One out of bounds has 0, and is no fault: whether there is a fault is an effect's to say
abbrev pub read : Storage → Spot → ℤ
read m spot = slice_index_or (row_of m spot.row) spot.at (pos 0)

-- the storage after a store. A store out of bounds changes nothing and makes no row longer
abbrev pub write : Storage → Spot → ℤ → Storage
write m spot value = slice_set m spot.row (slice_set (row_of m spot.row) spot.at value)

-- the same arrays with the same extents. The values may differ
pub record Alike (m m' : Storage) : Type 0 where
  pub count : length m ≡ length m'
  pub extent : (row : ℕ) → length (row_of m row) ≡ length (row_of m' row)
