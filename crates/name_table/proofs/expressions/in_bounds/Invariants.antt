use Rattle.std.proofs.Common.{◌≡◌, drop, map}
use Rattle.std.specs.Prelude.{◌&&◌}
use Rattle.std.specs.List.{flat_map, list_all}
use Rattle.syntax_tree.specs.Directive.{bound}
use Rattle.expression_rules.specs.Inner.{bound_expressions}
use Rattle.name_table.proofs.expressions.in_bounds.Given as goal

abbrev pub invariant-loop-dimension : goal.invariant-loop-dimension
invariant-loop-dimension g l =
    (l.all && list_all (g.T.ExpressionTest.passes l.test) (flat_map bound_expressions (map bound (drop l.dimension-index l.bounds))))
    ≡ list_all (g.T.ExpressionTest.passes l.test) (flat_map bound_expressions (map bound l.bounds))
