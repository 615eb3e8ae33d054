use Rattle.std.proofs.Common.{◌≡◌, ◌++◌, drop, map}
use Rattle.directive_check.specs.WideAlignments.{widened}
use Rattle.directive_check.proofs.composed_alignments.all_widened.Given as goal

abbrev pub invariant-loop-entry : goal.invariant-loop-entry
invariant-loop-entry l = l.wide.items ++ map (widened l.dims) (drop l.entry-index l.entries) ≡ map (widened l.dims) l.entries
