-- Of a promise.
-- Values at tuples that follow one another.
use Rattle.std.specs.Prelude.{◌≡◌, ℕ, ◌<◌, List, length, slice_index_or, ℤ, pos, Result, Ok}
use Rattle.array_meaning.specs.Faults.{Cause}

-- the results at so many numbers, all of which have a value
abbrev pub IsStrip : (ℕ → Result ℤ Cause) → ℕ → List ℤ → Type 0
IsStrip f n vs = (length vs ≡ n) × ((k : ℕ) → k < n → f k ≡ Ok (slice_index_or vs k (pos 0)))
