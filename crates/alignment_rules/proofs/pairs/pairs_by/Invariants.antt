use Rattle.std.proofs.Common.{◌≡◌, ◌≤◌, ◌++◌, drop, map}
use Rattle.syntax_tree.specs.Directive.{source_of}
use Rattle.alignment_rules.specs.AlignmentEntries.{pairs_from}
use Rattle.alignment_rules.proofs.pairs.pairs_by.Given as goal

abbrev pub invariant-loop-value : goal.invariant-loop-value
invariant-loop-value l =
    (l.place ≡ l.value-index) × (l.done ≤ l.value-index)
    × (l.pairs.items ++ pairs_from (map source_of l.sources) l.dims (drop l.done l.colons) (drop l.value-index l.values) (drop l.value-index l.bounds)
    ≡ pairs_from (map source_of l.sources) l.dims l.colons l.values l.bounds)
