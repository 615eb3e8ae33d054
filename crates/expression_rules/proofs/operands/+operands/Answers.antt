use Rattle.std.proofs.Common.{ap, sym, ◌∙◌}
use Rattle.syntax_tree.specs.Expression.{Call, expression}
use Rattle.syntax_tree.specs.Expression.{arguments_of}
use Rattle.expression_rules.specs.Symbols.{is_operand, satisfies}
use Rattle.expression_rules.specs.Operands.{are_operands}
use Rattle.expression_rules.proofs.Referenced.{operand_parts}
use Rattle.syntax_tree.proofs.Rows.{call_vec}
use Rattle.expression_rules.proofs.operands.+operands.Goals as goal

pub are_operands-returns-in-Call : goal.are_operands-returns-in-Call
are_operands-returns-in-Call t c =
    c.are_operands_in.ensures
    ∙ sym (ap (λ e. are_operands c.args.scope.now (expression e)) c.in-Call.is
    ∙ ap (λ ps. are_operands c.args.scope.now (Call c.in-Call.field-0 ps)) (call_vec c.in-Call.arguments ∙ ap arguments_of (sym c.deref-in-Call.ensures.value)))

pub is_operand_reference-returns-in-Some : goal.is_operand_reference-returns-in-Some
is_operand_reference-returns-in-Some t c =
    operand_parts c.args.scope.now c.args.reference.now.name c.args.reference.now.subs c.in-Some.parts c.deref.result.now c.are_operands_among.result
    c.in-Some.is c.deref.ensures.value (c.if-not-is_operand.ensures ∙ ap (satisfies is_operand) c.find.ensures) c.are_operands_among.ensures
