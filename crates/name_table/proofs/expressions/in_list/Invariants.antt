use Rattle.std.proofs.Common.{◌≡◌, drop, map}
use Rattle.std.specs.Prelude.{◌&&◌}
use Rattle.std.specs.List.{list_all}
use Rattle.syntax_tree.specs.Expression.{expression}
use Rattle.name_table.proofs.expressions.in_list.Given as goal

abbrev pub invariant-loop-e : goal.invariant-loop-e
invariant-loop-e g l =
    (l.all && list_all (g.T.ExpressionTest.passes l.test) (map expression (drop l.e-index l.list)))
    ≡ list_all (g.T.ExpressionTest.passes l.test) (map expression l.list)
