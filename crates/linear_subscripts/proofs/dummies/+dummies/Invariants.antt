use Rattle.std.proofs.Common.{◌≡◌, ◌++◌, drop, filter}
use Rattle.syntax_tree.specs.Expression.{arguments_of, parts_of}
use Rattle.expression_rules.specs.Operands.{names_in_parts}
use Rattle.expression_rules.specs.Symbols.{is_among}
use Rattle.linear_subscripts.proofs.dummies.+dummies.Given as goal

abbrev pub invariant-push_arguments-loop-argument : goal.invariant-push_arguments-loop-argument
invariant-push_arguments-loop-argument l =
    l.found.items ++ filter (λ x. is_among x l.dummies) (names_in_parts (arguments_of (drop l.argument-index l.arguments)))
    ≡ l.initial.found.items ++ filter (λ x. is_among x l.dummies) (names_in_parts (arguments_of l.arguments))

abbrev pub invariant-push_subscripts-loop-part : goal.invariant-push_subscripts-loop-part
invariant-push_subscripts-loop-part l =
    l.found.items ++ filter (λ x. is_among x l.dummies) (names_in_parts (parts_of (drop l.part-index l.parts)))
    ≡ l.initial.found.items ++ filter (λ x. is_among x l.dummies) (names_in_parts (parts_of l.parts))
