use Rattle.std.proofs.Common.{◌≡◌, drop, map}
use Rattle.std.specs.Prelude.{◌&&◌}
use Rattle.std.specs.List.{flat_map, list_all}
use Rattle.syntax_tree.specs.Statement.{item_of}
use Rattle.expression_rules.specs.Inner.{item_expressions}
use Rattle.name_table.proofs.expressions.in_items.Given as goal

abbrev pub invariant-loop-item : goal.invariant-loop-item
invariant-loop-item g l =
    (l.all && list_all (g.T.ExpressionTest.passes l.test) (flat_map item_expressions (map item_of (drop l.item-index l.items))))
    ≡ list_all (g.T.ExpressionTest.passes l.test) (flat_map item_expressions (map item_of l.items))
