use Rattle.std.proofs.Common.{drop}
use Rattle.fitting_states.specs.FittingStates.{InitialValuesFit}
use Rattle.fitting_numbers.proofs.values.initial_values_fit.Given as goal

-- all fit where those that are left do
abbrev pub invariant-loop-place : goal.invariant-loop-place
invariant-loop-place l = InitialValuesFit (drop l.place l.names) → InitialValuesFit l.names
