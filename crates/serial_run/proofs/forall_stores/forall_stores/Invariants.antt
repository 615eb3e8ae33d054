use Rattle.std.proofs.Common.{◌≡◌, Ok}
use Rattle.resolved_program.specs.Resolved.{element_assignment}
use Rattle.term_values.specs.States.{state_of}
use Rattle.serial_run.specs.SectionStores.{branch_mask}
use Rattle.serial_run.specs.ForallParts.{IsTuple, forall_stores}
use Rattle.serial_run.proofs.forall_stores.forall_stores.Given as goal

-- the stores of the tuples so far, and the tuple of this turn
abbrev pub invariant-loop-t : goal.invariant-loop-t
invariant-loop-t l =
    (forall_stores l.axes l.t (branch_mask l.space.branch l.space.mask.now) (element_assignment l.b) (state_of l.s) ≡ Ok l.stores.items) × IsTuple l.axes l.t l.x
