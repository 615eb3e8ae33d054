use Rattle.std.proofs.Common.{◌≡◌, map, replicate}
use Rattle.syntax_tree.specs.Directive.{source_of, Spread}
use Rattle.alignment_rules.proofs.sources.all_colons.Given as goal

abbrev pub invariant-loop-place : goal.invariant-loop-place
invariant-loop-place l = map source_of l.entries.items ≡ replicate l.place Spread
