use Rattle.std.proofs.Common.{drop, map}
use Rattle.std.specs.List.{AllByRecursion}
use Rattle.fitting_states.specs.FittingStates.{SectionAssignmentFits}
use Rattle.resolved_program.specs.Resolved.{section_assignment}
use Rattle.fitting_numbers.proofs.assignments.section_assignments_fit.Given as goal

-- all fit where those that are left do
abbrev pub invariant-loop-a : goal.invariant-loop-a
invariant-loop-a l = AllByRecursion SectionAssignmentFits (map section_assignment (drop l.a-index l.body)) → AllByRecursion SectionAssignmentFits (map section_assignment l.body)
