use Rattle.std.proofs.Common.{◌≡◌, drop, map}
use Rattle.array_meaning.specs.Forall.{assign_all_forall}
use Rattle.resolved_program.specs.Resolved.{element_assignment}
use Rattle.term_values.specs.States.{state_of}
use Rattle.serial_run.specs.SectionStores.{branch_mask}
use Rattle.serial_run.proofs.forall.assign_all_forall.Given as goal

-- what is left to run from here is the whole
abbrev pub invariant-loop-b : goal.invariant-loop-b
invariant-loop-b l =
    assign_all_forall l.axes l.n (branch_mask l.fn.space.branch l.fn.space.mask.now) (map element_assignment l.body) (state_of l.fn.s)
    ≡ assign_all_forall l.axes l.n (branch_mask l.fn.space.branch l.fn.space.mask.now) (map element_assignment (drop l.b-index l.body)) (state_of l.s)
