-- Of the claim.
-- The iterations of a nest of INDEPENDENT loops (HPF 2.0, 5.1): the values of its indices, and the state in an iteration.
use Rattle.std.specs.Prelude.{ℕ, zero, suc, nat_eq, List, [], ◌∷◌, ◌++◌, map, reverse, ℤ, pos, Bool}
use Rattle.std.specs.List.{list_any}
use Rattle.std.specs.Result.{result_unwrap_or}
use Rattle.name_table.specs.ElementOrder.{product}
use Rattle.name_table.specs.Operators.{wrapped}
use Rattle.array_meaning.specs.Statements.{Loop, Nest}
use Rattle.array_meaning.specs.State.{State, set_scalar}
use Rattle.array_meaning.specs.declared.sections.Sequence.{Sequence}
use Rattle.array_meaning.specs.Sections.{nth}
use Rattle.array_meaning.specs.Expressions.{index_values}
use Rattle.array_meaning.specs.Forall.{index_extents, indices_at}

-- a name is among others, all by their places
abbrev pub is_in : ℕ → List ℕ → Bool
is_in k ks = list_any (nat_eq k) ks

-- the values of a loop's index. Inside a nest the control of a loop names no index and no scalar that the nest assigns, and has no fault;
-- one with a fault has no value
abbrev pub values_of : State → Loop → Sequence
values_of s l = result_unwrap_or (index_values s l.control) record { first = pos 0; step = pos 1; count = 0 }

-- those of the indices of a nest, the innermost loop first: tuples of them are numbered from 0 in the order of execution
abbrev pub nest_axes : State → Nest → List Sequence
nest_axes s nest = reverse (map (values_of s) nest.loops)

-- the indices of a nest, the innermost loop's first
abbrev pub nest_indices : Nest → List ℕ
nest_indices nest = reverse (map (λ l. l.index) nest.loops)

-- how many iterations a nest has
abbrev pub iteration_count : Nest → State → ℕ
iteration_count nest s = product (index_extents (nest_axes s nest))

-- the state in which these indices have these values, the last one set first
abbrev pub with_indices : List ℕ → List ℤ → State → State
with_indices (x ∷ xs) (v ∷ vs) s = set_scalar (with_indices xs vs s) x v
with_indices xs vs s = s

-- the state at the entry, with the indices as they are in the iteration of a number
abbrev pub at_iteration : Nest → State → ℕ → State
at_iteration nest s i = with_indices (nest_indices nest) (indices_at (nest_axes s nest) i) s

-- the value of an inner loop's index in a turn, from 0
abbrev pub turn_value : Sequence → ℕ → ℤ
turn_value p x = wrapped (nth p (pos (suc x)))

-- the lists of all turns, one after the other
abbrev pub in_turns : {A : Type 0} → ℕ → (ℕ → List A) → List A
in_turns zero lists = []
in_turns (suc n) lists = in_turns n lists ++ lists n
