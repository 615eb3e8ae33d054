use Rattle.std.proofs.Common.{◌≡◌, ◌++◌, drop, map}
use Rattle.syntax_tree.specs.Directive.{source_of}
use Rattle.alignment_rules.proofs.sources.copied.Given as goal

abbrev pub invariant-loop-source : goal.invariant-loop-source
invariant-loop-source l = map source_of l.entries.items ++ map source_of (drop l.source-index l.sources) ≡ map source_of l.sources
