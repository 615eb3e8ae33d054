-- Of a promise.
-- No public clause cites this file.
-- Numbers one after the other, as code keeps them.
use Rattle.std.specs.Prelude.{ℕ, ◌+◌, ◌^◌, List, map, Option, Some, None}
use Rattle.std.specs.List.{range_with_len}

-- the numbers of a run: its first number with each place added, or so many from its first number on
abbrev pub run_of : Option (List ℕ) → (first count : ℕ) → List ℕ
run_of None first count = range_with_len first count
run_of (Some places) first count = map (λ p. first + p) places

-- what is more than each place
abbrev pub reach : Option (List ℕ) → (start count : ℕ) → ℕ
reach None start count = start + count
reach (Some places) start count = 2 ^ 32

-- places that are listed, or so many from a start on
abbrev pub places_of : Option (List ℕ) → (start count : ℕ) → List ℕ
places_of None start count = range_with_len start count
places_of (Some places) start count = places
