use Rattle.std.proofs.Common.{drop, map}
use Rattle.std.specs.List.{AllByRecursion}
use Rattle.fitting_states.specs.FittingStates.{ControlFits}
use Rattle.resolved_program.specs.Resolved.{control}
use Rattle.fitting_numbers.proofs.assignments.controls_fit.Given as goal

-- all fit where those that are left do
abbrev pub invariant-loop-c : goal.invariant-loop-c
invariant-loop-c l = AllByRecursion ControlFits (map control (drop l.c-index l.controls)) → AllByRecursion ControlFits (map control l.controls)
