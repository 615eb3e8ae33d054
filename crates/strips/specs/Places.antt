-- Of a promise.
-- Places of a section's elements that follow one another.
use Rattle.std.specs.Prelude.{◌≡◌, ℕ, ◌+◌, ◌/◌, ◌%◌, ◌<◌, List, [], ◌∷◌, slice_index_or, ℤ, Result, Ok}
use Rattle.array_meaning.specs.Faults.{Cause}
use Rattle.array_meaning.specs.Sections.{positions, subscripts_at}
use Rattle.array_meaning.specs.State.{State, place_in}
use Rattle.array_meaning.specs.declared.sections.Selection.{Selection}
use Rattle.strips.specs.Strips.{row_tuple}

-- the place of a section's element at a tuple
abbrev pub tuple_place : State → ℕ → List Selection → List ℤ → Result ℕ Cause
tuple_place s a ds tuple = place_in s a (subscripts_at ds tuple)

-- the places at so many tuples of a row, from one on, follow one another from a first place on
abbrev pub IsRun : State → ℕ → List Selection → ℕ → List ℤ → ℕ → ℕ → Type 0
IsRun s a ds u rest n first = (k : ℕ) → k < n → tuple_place s a ds (row_tuple u rest k) ≡ Ok (first + k)

-- how long the rows of a space are
abbrev pub row_length : List ℕ → ℕ
row_length [] = 1
row_length (n ∷ ns) = n

-- in each row of a space the places follow one another from the row's first place on; of the tuples below a number
abbrev pub AreRuns : State → List ℕ → ℕ → List Selection → ℕ → List ℕ → Type 0
AreRuns s ns a ds n firsts = (t : ℕ) → t < n → tuple_place s a ds (positions ns t) ≡ Ok (slice_index_or firsts (t / row_length ns) 0 + t % row_length ns)
