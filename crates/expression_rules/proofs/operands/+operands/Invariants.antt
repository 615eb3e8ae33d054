use Rattle.std.proofs.Common.{◌≡◌, drop}
use Rattle.std.specs.Prelude.{◌&&◌}
use Rattle.std.specs.List.{list_all}
use Rattle.syntax_tree.specs.Expression.{arguments_of, parts_of}
use Rattle.expression_rules.specs.Symbols.{find, is_operand, satisfies}
use Rattle.expression_rules.specs.Operands.{names_in_parts}
use Rattle.expression_rules.proofs.operands.+operands.Given as goal

abbrev pub invariant-are_operands_among-loop-part : goal.invariant-are_operands_among-loop-part
invariant-are_operands_among-loop-part l =
    (l.all && list_all (λ x. satisfies is_operand (find x l.scope)) (names_in_parts (parts_of (drop l.part-index l.parts))))
    ≡ list_all (λ x. satisfies is_operand (find x l.scope)) (names_in_parts (parts_of l.parts))

abbrev pub invariant-are_operands_in-loop-argument : goal.invariant-are_operands_in-loop-argument
invariant-are_operands_in-loop-argument l =
    (l.all && list_all (λ x. satisfies is_operand (find x l.scope)) (names_in_parts (arguments_of (drop l.argument-index l.arguments))))
    ≡ list_all (λ x. satisfies is_operand (find x l.scope)) (names_in_parts (arguments_of l.arguments))
