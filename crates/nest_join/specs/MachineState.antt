-- Of proofs.
-- The slots and rows of the machine as a state.
use Rattle.std.specs.Prelude.{ℕ, zero, suc, List, [], ◌∷◌, ℤ}
use Rattle.expression_rules.specs.declared.dims.Dim.{Dim}
use Rattle.storage.specs.Storage.{Storage, row_of}
use Rattle.array_meaning.specs.State.{State, Array}
use Rattle.code_meaning.specs.Flat.{slot}
use Rattle.code_meaning.specs.Parallel.{shape_of}

-- the list of so many values by their places, from a place on
abbrev pub listed_from : {A : Type 0} → (ℕ → A) → ℕ → ℕ → List A
listed_from f k zero = []
listed_from f k (suc n) = f k ∷ listed_from f (suc k) n

module _ (n : ℕ) (shapes : List (List Dim)) (slots : List ℤ) (rows : Storage) where
  abbrev pub machine_array : ℕ → Array
  machine_array a = record { dims = shape_of shapes a; elements = row_of rows a }

  -- each name has the value of its slot and the row of its number
  abbrev pub machine_state : State
  machine_state = record { scalars = listed_from (slot slots) 0 n; arrays = listed_from machine_array 0 n; printed = [] }
