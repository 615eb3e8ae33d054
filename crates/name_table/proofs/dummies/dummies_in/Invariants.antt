use Rattle.std.proofs.Common.{◌≡◌, ◌++◌, drop, map}
use Rattle.std.specs.List.{flat_map}
use Rattle.syntax_tree.specs.Directive.{source_of}
use Rattle.name_table.specs.Directives.{dummy_of}
use Rattle.name_table.proofs.dummies.dummies_in.Given as goal

abbrev pub invariant-loop-source : goal.invariant-loop-source
invariant-loop-source l = l.names.items ++ flat_map dummy_of (map source_of (drop l.source-index l.sources)) ≡ flat_map dummy_of (map source_of l.sources)
