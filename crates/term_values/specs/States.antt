-- Of a promise.
-- The state of the definitions that a state in code is.
use Rattle.array_meaning.specs.State.{State}
use Rattle.term_values.specs.declared.state.State.{State as HeldState}

abbrev pub state_of : HeldState → State
state_of s = record { scalars = s.scalars.items; arrays = s.arrays.items; printed = s.printed.items }
