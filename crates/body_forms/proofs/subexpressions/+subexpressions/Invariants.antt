use Rattle.std.proofs.Common.{◌≡◌, drop}
use Rattle.std.specs.Prelude.{◌&&◌}
use Rattle.std.specs.List.{list_all}
use Rattle.syntax_tree.specs.Expression.{arguments_of, parts_of}
use Rattle.body_forms.specs.Subexpressions.{subexpressions_in_parts}
use Rattle.body_forms.proofs.subexpressions.+subexpressions.Given as goal

abbrev pub invariant-all_pass_arguments-loop-argument : goal.invariant-all_pass_arguments-loop-argument
invariant-all_pass_arguments-loop-argument g l =
    (l.all && list_all (g.T.ExpressionTest.passes l.test) (subexpressions_in_parts (arguments_of (drop l.argument-index l.arguments))))
    ≡ list_all (g.T.ExpressionTest.passes l.test) (subexpressions_in_parts (arguments_of l.arguments))

abbrev pub invariant-all_pass_subscripts-loop-part : goal.invariant-all_pass_subscripts-loop-part
invariant-all_pass_subscripts-loop-part g l =
    (l.all && list_all (g.T.ExpressionTest.passes l.test) (subexpressions_in_parts (parts_of (drop l.part-index l.parts))))
    ≡ list_all (g.T.ExpressionTest.passes l.test) (subexpressions_in_parts (parts_of l.parts))
