use Rattle.std.proofs.Common.{◌≡◌, option_copied, IfOk, ap, sym, ◌∙◌, subst}
use Rattle.expression_rules.specs.Constants.{values}
use Rattle.expression_rules.specs.Partial.{and_all}
use Rattle.syntax_tree.specs.Expression.{arguments_of}
use Rattle.expression_rules.specs.declared.evaluated.Evaluated.TheVariants.{Known}
use Rattle.expression_rules.proofs.Evaluations.{none_and, value_call, values_next}
use Rattle.expression_rules.proofs.constants.+constants.Goals as goal

pub value-returns-in-Call : goal.value-returns-in-Call
value-returns-in-Call t c =
    subst (λ w. IfOk c.called_value.result (λ f. f ≡ w))
    (sym (value_call (option_copied c.args.grid) c.args.scope.now c.args.e.now c.in-Call.op c.in-Call.arguments c.deref-in-Call.result.now c.in-Call.is c.deref-in-Call.ensures.value))
    c.called_value.ensures

pub values-loop-e-init : goal.values-loop-e-init
values-loop-e-init t c =
    ap (λ ns. and_all (Known ns) (values (option_copied c.args.grid) c.args.scope.now (arguments_of c.args.expressions.now))) c.new.ensures
    ∙ none_and (values (option_copied c.args.grid) c.args.scope.now (arguments_of c.args.expressions.now))

pub values-loop-e-preserved : goal.values-loop-e-preserved
values-loop-e-preserved t c =
    values_next (option_copied c.args.grid) c.args.scope.now c.args.expressions.now c.loop-e.e-index c.e-item.result c.loop-e.found c.in_ok-found.found c.in_ok-number.number
    c.loop-e-test.true c.e-item.is c.in_ok-number.ensures c.in_ok-found.ensures c.loop-e.invariant
