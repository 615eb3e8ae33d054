use Rattle.std.proofs.Common.{refl}
use Rattle.syntax_tree.specs.Expression.{arguments_of, expression, parts_of, subscript}
use Rattle.expression_rules.specs.Operands.{names_in, names_in_part, names_in_parts}
use Rattle.expression_rules.specs.Symbols.{is_among}
use Rattle.linear_subscripts.proofs.FoundNames.{call_names, element_names, names_next, triplet_names}
use Rattle.linear_subscripts.proofs.dummies.+dummies.Goals as goal

pub push_dummies-returns-in_ok-push_arguments-in-Call : goal.push_dummies-returns-in_ok-push_arguments-in-Call
push_dummies-returns-in_ok-push_arguments-in-Call t c =
    call_names c.args.dummies.now _ _ c.args.e.now c.in-Call.field-0 c.in-Call.arguments c.deref-in-Call.result.now c.in-Call.is c.deref-in-Call.ensures.value
    c.in_ok-push_arguments-in-Call.ensures

pub push_reference-returns-in_ok-push_subscripts-in-Some : goal.push_reference-returns-in_ok-push_subscripts-in-Some
push_reference-returns-in_ok-push_subscripts-in-Some t c =
    element_names c.args.dummies.now _ _ _ c.args.reference.now.name c.args.reference.now.subs c.in-Some.parts c.deref.result.now
    c.in-Some.is c.deref.ensures.value c.in_ok-push_name.ensures c.in_ok-push_subscripts-in-Some.ensures

pub push_part-returns-in_ok-push_if_any-in-Triplet-3 : goal.push_part-returns-in_ok-push_if_any-in-Triplet-3
push_part-returns-in_ok-push_if_any-in-Triplet-3 t c =
    triplet_names (λ x. is_among x c.args.dummies.now) c.args.found.now.items c.push_if_any.new.found.items c.push_if_any-in-Triplet.new.found.items
    c.push_if_any-in-Triplet-2.new.found.items c.args.part.now c.in-Triplet.first c.in-Triplet.last c.in-Triplet.step c.in-Triplet.is
    c.in_ok-push_if_any-in-Triplet.ensures c.in_ok-push_if_any-in-Triplet-2.ensures c.in_ok-push_if_any-in-Triplet-3.ensures

pub push_arguments-loop-argument-preserved : goal.push_arguments-loop-argument-preserved
push_arguments-loop-argument-preserved t c =
    names_next (λ x. is_among x c.args.dummies.now) (λ es. names_in_parts (arguments_of es)) (λ e. names_in (expression e)) (λ e es. refl)
    c.args.arguments.now c.loop-argument.argument-index c.argument-item.result c.loop-argument.found.items c.push_dummies.new.found.items _
    c.loop-argument-test.true c.argument-item.is c.in_ok-push_dummies.ensures c.loop-argument.invariant

pub push_subscripts-loop-part-preserved : goal.push_subscripts-loop-part-preserved
push_subscripts-loop-part-preserved t c =
    names_next (λ x. is_among x c.args.dummies.now) (λ ps. names_in_parts (parts_of ps)) (λ p. names_in_part (subscript p)) (λ p ps. refl)
    c.args.parts.now c.loop-part.part-index c.part-item.result c.loop-part.found.items c.push_part.new.found.items _
    c.loop-part-test.true c.part-item.is c.in_ok-push_part.ensures c.loop-part.invariant
