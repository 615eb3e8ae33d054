use Rattle.std.proofs.Common.{◌≡◌, drop, map}
use Rattle.std.specs.Prelude.{◌&&◌}
use Rattle.std.specs.List.{flat_map, list_all}
use Rattle.syntax_tree.specs.Directive.{arrangement}
use Rattle.name_table.specs.Directives.{entity_expressions}
use Rattle.name_table.proofs.expressions.in_arrangements.Given as goal

abbrev pub invariant-loop-one : goal.invariant-loop-one
invariant-loop-one g l =
    (l.all && list_all (g.T.ExpressionTest.passes l.test) (flat_map entity_expressions (map arrangement (drop l.one-index l.entities))))
    ≡ list_all (g.T.ExpressionTest.passes l.test) (flat_map entity_expressions (map arrangement l.entities))
