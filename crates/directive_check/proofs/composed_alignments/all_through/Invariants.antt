use Rattle.std.proofs.Common.{◌≡◌, ◌++◌, drop, map}
use Rattle.directive_check.specs.WideAlignments.{wide_through}
use Rattle.directive_check.proofs.composed_alignments.all_through.Given as goal

abbrev pub invariant-loop-entry : goal.invariant-loop-entry
invariant-loop-entry l = l.wide.items ++ map (wide_through l.so_far) (drop l.entry-index l.entries) ≡ map (wide_through l.so_far) l.entries
