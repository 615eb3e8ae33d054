use Rattle.std.specs.List.{AllWithin}
use Rattle.directive_check.specs.WideAlignments.{FitsBounds}
use Rattle.directive_check.proofs.dims.all_fit.Given as goal

abbrev pub invariant-loop-dim : goal.invariant-loop-dim
invariant-loop-dim l = AllWithin FitsBounds l.dims 0 l.dim-index
