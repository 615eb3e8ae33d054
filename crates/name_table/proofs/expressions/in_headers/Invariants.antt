use Rattle.std.proofs.Common.{◌≡◌, drop, map}
use Rattle.std.specs.Prelude.{◌&&◌}
use Rattle.std.specs.List.{flat_map, list_all}
use Rattle.syntax_tree.specs.Statement.{axis}
use Rattle.expression_rules.specs.Inner.{axis_expressions}
use Rattle.name_table.proofs.expressions.in_headers.Given as goal

abbrev pub invariant-loop-header : goal.invariant-loop-header
invariant-loop-header g l =
    (l.all && list_all (g.T.ExpressionTest.passes l.test) (flat_map axis_expressions (map axis (drop l.header-index l.headers))))
    ≡ list_all (g.T.ExpressionTest.passes l.test) (flat_map axis_expressions (map axis l.headers))
