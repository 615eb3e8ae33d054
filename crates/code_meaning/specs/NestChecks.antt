-- Of the claim.
-- The check of a nest of INDEPENDENT loops at its entry (HPF 2.0, 5.1), over the slots.
use Rattle.std.specs.Prelude.{List, [], map, ℤ}
use Rattle.node_code.specs.Dim.{Dim}
use Rattle.node_code.specs.State.{State, Array}

-- an array without its elements: of what the check evaluates, only the bounds of the outermost loop may name one, and these stand in slots
abbrev pub without_elements : List Dim → Array
without_elements dims = record { dims = dims; elements = [] }

-- the state that the check sees: the slots, of which the first are the scalars, and the dimensions of the arrays
abbrev pub entry_state : List (List Dim) → List ℤ → State
entry_state shapes slots = record { scalars = slots; arrays = map without_elements shapes; printed = [] }
