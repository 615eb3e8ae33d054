-- Of a promise.
-- A state over a storage: each scalar that a nest assigns is a row of one element, and each array is the row of its elements. Row k is that of
-- the name with place k.
use Rattle.std.specs.Prelude.{ℕ, suc, List, [], ◌∷◌, ℤ, if◌then◌else◌}
use Rattle.storage.specs.Storage.{Storage, row_of, read}
use Rattle.nest_syntax.specs.NestKinds.{Kind, has_copies}
use Rattle.nest_order.specs.Copies.{scalar_at}
use Rattle.array_meaning.specs.State.{State, Array, scalar}

-- `kinds` says what each name is to the nest
module _ (kinds : ℕ → Kind) where
  -- scalars from a place on: one that the nest assigns is the element of its row, and any other is as it is
  abbrev pub scalars_in : Storage → ℕ → List ℤ → List ℤ
  scalars_in m k [] = []
  scalars_in m k (v ∷ vs) = (if has_copies (kinds k) then read m (scalar_at k) else v) ∷ scalars_in m (suc k) vs

  -- arrays from a place on, with the elements of their rows
  abbrev pub arrays_in : Storage → ℕ → List Array → List Array
  arrays_in m k [] = []
  arrays_in m k (a ∷ as') = (if has_copies (kinds k) then a else record a { elements = row_of m k }) ∷ arrays_in m (suc k) as'

  -- the state with the arrays and the assigned scalars of a storage
  abbrev pub state_of : State → Storage → State
  state_of s m = record s { scalars = scalars_in m 0 s.scalars; arrays = arrays_in m 0 s.arrays }

  -- the rows of names from a place on
  abbrev pub rows_from : State → ℕ → List Array → Storage
  rows_from s k [] = []
  rows_from s k (a ∷ as') = (if has_copies (kinds k) then scalar s k ∷ [] else a.elements) ∷ rows_from s (suc k) as'

  -- the storage of a state
  abbrev pub storage_of : State → Storage
  storage_of s = rows_from s 0 s.arrays
