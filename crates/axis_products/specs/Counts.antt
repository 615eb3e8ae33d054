-- Of a promise.
-- How many places of each axis pass a test.
use Rattle.std.specs.Prelude.{ℕ, ◌+◌, Bool, List, [], ◌∷◌, filter, length}
use Rattle.std.specs.List.{range_with_len}

abbrev pub counts : (test : ℕ → ℕ → Bool) → (axis : ℕ) → (extents : List ℕ) → List ℕ
counts test axis [] = []
counts test axis (extent ∷ extents) = length (filter (test axis) (range_with_len 0 extent)) ∷ counts test (axis + 1) extents

-- how many of them below these places
abbrev pub ranks : (test : ℕ → ℕ → Bool) → (axis : ℕ) → (places : List ℕ) → List ℕ
ranks test axis [] = []
ranks test axis (p ∷ ps) = length (filter (test axis) (range_with_len 0 p)) ∷ ranks test (axis + 1) ps
