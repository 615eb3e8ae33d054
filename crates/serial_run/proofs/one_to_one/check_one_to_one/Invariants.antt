use Rattle.std.proofs.Common.{◌≡◌, drop, map}
use Rattle.array_meaning.specs.Forall.{check_one_to_one}
use Rattle.resolved_program.specs.Resolved.{element_assignment}
use Rattle.term_values.specs.States.{state_of}
use Rattle.serial_run.proofs.one_to_one.check_one_to_one.Given as goal

-- what is left to check from here is all
abbrev pub invariant-loop-b : goal.invariant-loop-b
invariant-loop-b l =
    check_one_to_one l.extents (map element_assignment l.body) (state_of l.s) ≡ check_one_to_one l.extents (map element_assignment (drop l.b-index l.body)) (state_of l.s)
