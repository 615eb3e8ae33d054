use Rattle.std.proofs.Common.{drop, map}
use Rattle.std.specs.List.{AllByRecursion}
use Rattle.fitting_states.specs.FittingStates.{ElementAssignmentFits}
use Rattle.resolved_program.specs.Resolved.{element_assignment}
use Rattle.fitting_numbers.proofs.assignments.element_assignments_fit.Given as goal

-- all fit where those that are left do
abbrev pub invariant-loop-a : goal.invariant-loop-a
invariant-loop-a l = AllByRecursion ElementAssignmentFits (map element_assignment (drop l.a-index l.body)) → AllByRecursion ElementAssignmentFits (map element_assignment l.body)
