use Rattle.body_forms.proofs.Inside.{call_passes, element_passes}
use Rattle.body_forms.proofs.subexpressions.+subexpressions.Goals as goal

pub all_pass-returns-then-test-3 : goal.all_pass-returns-then-test-3
all_pass-returns-then-test-3 g t c =
    call_passes (g.T.ExpressionTest.passes c.args.test.now) c.args.e.now c.in-Call.field-0 c.in-Call.arguments c.deref-then-test-3.result.now c.all_pass_arguments.result
    c.in-Call.is c.deref-then-test-3.ensures.value c.if-test-3.ensures c.all_pass_arguments.ensures

pub all_pass_reference-returns-in-Some : goal.all_pass_reference-returns-in-Some
all_pass_reference-returns-in-Some g t c =
    element_passes (g.T.ExpressionTest.passes c.args.test.now) c.args.reference.now.name c.args.reference.now.subs c.in-Some.parts c.deref.result.now c.all_pass_subscripts.result
    c.in-Some.is c.deref.ensures.value c.if-not-test_reference.ensures c.all_pass_subscripts.ensures
