use Rattle.std.proofs.Common.{◌≡◌, ◌≤◌, drop, map}
use Rattle.std.specs.Prelude.{if◌then◌else◌}
use Rattle.syntax_tree.specs.Directive.{source_of}
use Rattle.alignment_rules.specs.AlignmentEntries.{dimension_from}
use Rattle.alignment_rules.proofs.sources.dimension.Given as goal

abbrev pub invariant-loop-source : goal.invariant-loop-source
invariant-loop-source l =
    (l.place ≤ l.source-index)
    × ((if l.found then l.place else dimension_from l.place l.name (map source_of (drop l.source-index l.sources)))
    ≡ dimension_from 0 l.name (map source_of l.sources))
