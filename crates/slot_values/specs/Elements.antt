-- Of a promise.
-- Elements by their places in an array.
use Rattle.std.specs.Prelude.{ℕ, List, [], ℤ, Option, Result, Ok}
use Rattle.expression_rules.specs.declared.dims.Dim.{Dim}
use Rattle.storage.specs.Storage.{Spot}
use Rattle.array_meaning.specs.declared.sections.Selection.{Selection}
use Rattle.array_meaning.specs.Elementals.{each}
use Rattle.array_meaning.specs.Faults.{Cause, ◌>>=◌}
use Rattle.array_meaning.specs.Sections.{positions, subscripts_at}
use Rattle.array_meaning.specs.State.{element_place, if_in_bounds}
use Rattle.node_code.specs.Flat.{Flats}
use Rattle.code_meaning.specs.Flat.{flat_values}
use Rattle.code_meaning.specs.Instructions.{spot_in}
use Rattle.code_meaning.specs.Parallel.{shape_of}

-- Bounds where there is no place
abbrev pub element_of : ℕ → Option ℕ → Result Spot Cause
element_of a place = if_in_bounds place >>= (λ k. Ok (record { row = a; at = k }))

-- the element of an array that subscripts over the slots name
abbrev pub element_spot : List (List Dim) → ℕ → Flats → List ℤ → Result Spot Cause
element_spot shapes a fs slots = flat_values slots [] [] fs >>= spot_in a (shape_of shapes a)

-- the place of the element of a section at a tuple
abbrev pub place_at : List (List Dim) → ℕ → List Selection → List ℕ → ℕ → Result ℕ Cause
place_at shapes a ds ns t = if_in_bounds (element_place (shape_of shapes a) (subscripts_at ds (positions ns t)))

-- those at the first tuples of a space of these extents
abbrev pub inside_to : List (List Dim) → ℕ → List Selection → List ℕ → ℕ → Result (List ℕ) Cause
inside_to shapes a ds ns n = each (positions ns) (place_at shapes a ds ns) n
