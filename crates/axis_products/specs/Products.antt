-- Of a promise.
-- Tuples of a space by their places on its axes. Places count from 0, and the first axis is the fastest.
use Rattle.std.specs.Prelude.{ℕ, ◌+◌, ◌*◌, ◌/◌, ◌%◌, Bool, true, ◌&&◌, List, [], ◌∷◌, filter, map}
use Rattle.std.specs.List.{flat_map, range_with_len}

-- the places of the tuple with a number
abbrev pub places_at : (extents : List ℕ) → (tuple : ℕ) → List ℕ
places_at [] t = []
places_at (extent ∷ extents) t = (t % extent) ∷ places_at extents (t / extent)

-- the number of the tuple at these places
abbrev pub number_at : (extents places : List ℕ) → ℕ
number_at [] places = 0
number_at (extent ∷ extents) [] = 0
number_at (extent ∷ extents) (p ∷ ps) = number_at extents ps * extent + p

-- the place on each axis passes the test of the axis, where the first has this number
abbrev pub each : (test : ℕ → ℕ → Bool) → (axis : ℕ) → (places : List ℕ) → Bool
each test axis [] = true
each test axis (p ∷ ps) = test axis p && each test (axis + 1) ps

-- the places that pass, a list an axis
abbrev pub passing : (test : ℕ → ℕ → Bool) → (axis : ℕ) → (extents : List ℕ) → List (List ℕ)
passing test axis [] = []
passing test axis (extent ∷ extents) = filter (test axis) (range_with_len 0 extent) ∷ passing test (axis + 1) extents

-- all tuples with a place of each list, the first list fastest
abbrev pub combined : List (List ℕ) → List (List ℕ)
combined [] = [] ∷ []
combined (ps ∷ pss) = flat_map (λ rest. map (λ p. p ∷ rest) ps) (combined pss)
