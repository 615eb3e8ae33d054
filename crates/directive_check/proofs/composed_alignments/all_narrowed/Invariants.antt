use Rattle.std.proofs.Common.{◌≡◌, drop}
use Rattle.distribution_rules.specs.Distributed.{all_or_none}
use Rattle.directive_check.specs.WideAlignments.{narrowed}
use Rattle.directive_check.proofs.ListTurns.{prepended}
use Rattle.directive_check.proofs.composed_alignments.all_narrowed.Given as goal

abbrev pub invariant-loop-entry : goal.invariant-loop-entry
invariant-loop-entry l = prepended l.narrow.items (all_or_none narrowed (drop l.entry-index l.entries)) ≡ all_or_none narrowed l.entries
