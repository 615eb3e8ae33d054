use Rattle.std.proofs.Common.{◌≡◌, Ok}
use Rattle.array_meaning.specs.Elementals.{Same, values_over}
use Rattle.term_values.specs.States.{state_of}
use Rattle.term_values.proofs.columns.same_column.Given as goal

-- the values at the tuples so far
abbrev pub invariant-loop-t : goal.invariant-loop-t
invariant-loop-t l = values_over (state_of l.s) l.ns (Same l.v) l.t ≡ Ok l.vs.items
