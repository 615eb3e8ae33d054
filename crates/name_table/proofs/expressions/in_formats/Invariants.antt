use Rattle.std.proofs.Common.{◌≡◌, drop, map}
use Rattle.std.specs.Prelude.{◌&&◌}
use Rattle.std.specs.List.{flat_map, list_all}
use Rattle.syntax_tree.specs.Directive.{format_of}
use Rattle.expression_rules.specs.Inner.{format_expressions}
use Rattle.name_table.proofs.expressions.in_formats.Given as goal

abbrev pub invariant-loop-format : goal.invariant-loop-format
invariant-loop-format g l =
    (l.all && list_all (g.T.ExpressionTest.passes l.test) (flat_map format_expressions (map format_of (drop l.format-index l.formats))))
    ≡ list_all (g.T.ExpressionTest.passes l.test) (flat_map format_expressions (map format_of l.formats))
