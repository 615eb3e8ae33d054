use Rattle.std.proofs.Common.{◌≡◌, ◌++◌, drop, map}
use Rattle.syntax_tree.specs.Directive.{source_of}
use Rattle.alignment_rules.specs.AlignmentEntries.{colons_from}
use Rattle.alignment_rules.proofs.sources.colons.Given as goal

abbrev pub invariant-loop-source : goal.invariant-loop-source
invariant-loop-source l =
    (l.place ≡ l.source-index)
    × (l.places.items ++ colons_from l.place (map source_of (drop l.source-index l.sources)) ≡ colons_from 0 (map source_of l.sources))
