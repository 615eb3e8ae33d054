use Rattle.std.proofs.Common.{◌≡◌, drop, map}
use Rattle.std.specs.Prelude.{◌&&◌}
use Rattle.std.specs.List.{flat_map, list_all}
use Rattle.syntax_tree.specs.Directive.{target_of}
use Rattle.name_table.specs.Directives.{target_expressions}
use Rattle.name_table.proofs.expressions.in_targets.Given as goal

abbrev pub invariant-loop-target : goal.invariant-loop-target
invariant-loop-target g l =
    (l.all && list_all (g.T.ExpressionTest.passes l.test) (flat_map target_expressions (map target_of (drop l.target-index l.targets))))
    ≡ list_all (g.T.ExpressionTest.passes l.test) (flat_map target_expressions (map target_of l.targets))
