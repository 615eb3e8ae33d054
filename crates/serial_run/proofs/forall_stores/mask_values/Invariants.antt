use Rattle.std.proofs.Common.{◌≡◌, Ok}
use Rattle.array_meaning.specs.Elementals.{each}
use Rattle.array_meaning.specs.Expressions.{value}
use Rattle.array_meaning.specs.Forall.{indices_at}
use Rattle.resolved_program.specs.Resolved.{term}
use Rattle.term_values.specs.States.{state_of}
use Rattle.serial_run.specs.ForallParts.{IsTuple}
use Rattle.serial_run.proofs.forall_stores.mask_values.Given as goal

-- the values of the tuples so far, and the tuple of this turn
abbrev pub invariant-loop-t : goal.invariant-loop-t
invariant-loop-t l =
    (each (indices_at l.axes) (λ t. value (indices_at l.axes t) (state_of l.s) (term l.mask)) l.t ≡ Ok l.values.items) × IsTuple l.axes l.t l.x
