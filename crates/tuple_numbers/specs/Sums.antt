-- Of a promise.
-- No public clause cites this file.
-- Numbers of tuples as sums of one number of each axis.
use Rattle.std.specs.Prelude.{ℕ, ◌+◌, ◌*◌, ◌^◌, ◌<◌, ◌≤◌, All, List, [], ◌∷◌, map}
use Rattle.std.specs.List.{flat_map}

-- each of the places added to each of the numbers, the places fastest
abbrev pub rows : (after places : List ℕ) → List ℕ
rows after places = flat_map (λ n. map (λ p. n + p) places) after

-- the sums of one number of each list, the first list fastest
abbrev pub sums : List (List ℕ) → List ℕ
sums [] = 0 ∷ []
sums (ps ∷ pss) = rows (sums pss) ps

-- what the places of each axis add to a tuple's number, where the numbers of two neighbours on the first axis differ by this factor
abbrev pub scaled : (factor : ℕ) → (extents : List ℕ) → List (List ℕ) → List (List ℕ)
scaled factor [] lists = []
scaled factor (extent ∷ extents) [] = []
scaled factor (extent ∷ extents) (ps ∷ pss) = map (λ p. factor * p) ps ∷ scaled (factor * extent) extents pss

-- these numbers are of 32 bits, and so is the number of tuples on each axis and those before it
abbrev pub AreRoom : (factor : ℕ) → (extents : List ℕ) → List (List ℕ) → Type 0
AreRoom factor [] lists = factor ≤ 2 ^ 32
AreRoom factor (extent ∷ extents) [] = factor ≤ 2 ^ 32
AreRoom factor (extent ∷ extents) (ps ∷ pss) = (factor ≤ 2 ^ 32) × All (λ p. factor * p < 2 ^ 32) ps × AreRoom (factor * extent) extents pss
