use Rattle.std.proofs.Common.{◌≡◌, Ok}
use Rattle.array_meaning.specs.Elementals.{NoOperand, Operand, Operation, values_over}
use Rattle.term_values.specs.States.{state_of}
use Rattle.term_values.specs.Views.{elemental}
use Rattle.term_values.proofs.columns.operated_columns.Given as goal

-- the values at the tuples so far
abbrev pub invariant-loop-t : goal.invariant-loop-t
invariant-loop-t l = values_over (state_of l.s) l.ns (Operation l.op (Operand (elemental l.x) (Operand (elemental l.y) NoOperand))) l.t ≡ Ok l.vs.items
