use Rattle.std.proofs.Common.{◌≡◌, ◌≤◌, ◌+◌, drop, filter, length, map}
use Rattle.syntax_tree.specs.Directive.{source_of}
use Rattle.alignment_rules.specs.AlignmentRules.{is_colon}
use Rattle.alignment_rules.proofs.pairs.count_colons.Given as goal

abbrev pub invariant-loop-source : goal.invariant-loop-source
invariant-loop-source l =
    (l.count ≤ l.source-index)
    × (l.count + length (filter is_colon (map source_of (drop l.source-index l.sources))) ≡ length (filter is_colon (map source_of l.sources)))
