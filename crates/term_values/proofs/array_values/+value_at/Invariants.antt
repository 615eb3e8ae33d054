use Rattle.std.proofs.Common.{◌≡◌, drop}
use Rattle.array_meaning.specs.Elementals.{values_at}
use Rattle.term_values.specs.States.{state_of}
use Rattle.term_values.specs.Views.{elementals_of}
use Rattle.term_values.proofs.InOrder.{prefixed}
use Rattle.term_values.proofs.array_values.+value_at.Given as goal

-- the values so far, before those that are left
abbrev pub invariant-values_at-loop-x : goal.invariant-values_at-loop-x
invariant-values_at-loop-x l =
    values_at (state_of l.s) l.tuple (elementals_of l.x-items) ≡ prefixed l.vs.items (values_at (state_of l.s) l.tuple (elementals_of (drop l.x-index l.x-items)))
