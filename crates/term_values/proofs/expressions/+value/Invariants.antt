use Rattle.std.proofs.Common.{◌≡◌, drop}
use Rattle.resolved_program.specs.Resolved.{terms_of, subscripts_of}
use Rattle.array_meaning.specs.Expressions.{values, elementals, selections}
use Rattle.term_values.specs.States.{state_of}
use Rattle.term_values.proofs.InOrder.{after, prefixed}
use Rattle.term_values.proofs.Operands.{before_operands}
use Rattle.term_values.proofs.expressions.+value.Given as goal

-- what was evaluated, before what is left
abbrev pub invariant-values-loop-t : goal.invariant-values-loop-t
invariant-values-loop-t l = values l.indices (state_of l.s) (terms_of l.t-items) ≡ after l.indices (state_of l.s) l.vs.items (drop l.t-index l.t-items)

-- the selections so far, before those that are left
abbrev pub invariant-selections-loop-d : goal.invariant-selections-loop-d
invariant-selections-loop-d l =
    selections l.indices (state_of l.s) (subscripts_of l.d-items) ≡ prefixed l.r.items (selections l.indices (state_of l.s) (subscripts_of (drop l.d-index l.d-items)))

-- the operands so far, before those that are left
abbrev pub invariant-elementals-loop-t : goal.invariant-elementals-loop-t
invariant-elementals-loop-t l =
    elementals l.indices (state_of l.s) (terms_of l.t-items) ≡ before_operands l.xs.items (elementals l.indices (state_of l.s) (terms_of (drop l.t-index l.t-items)))
