use Rattle.std.proofs.Common.{◌≡◌, IfOk, ap, ◌∙◌, subst}
use Rattle.std.proofs.lemmas.List.{at_drop_all}
use Rattle.program_code.specs.ExpressionCode.{form_of, forms_of}
use Rattle.node_code.specs.Forms.{OperationForm}
use Rattle.node_code.specs.Texts.{form}
use Rattle.resolved_program.proofs.Forms.{apply_is, section_is}
use Rattle.node_code.proofs.Rows.{operation_vec}
use Rattle.expression_code.proofs.Lists.{forms_made}
use Rattle.resolved_program.specs.Resolved.{terms_of}
use Rattle.expression_code.proofs.values.+form.Goals as goal

pub form_of-returns-in-Section : goal.form_of-returns-in-Section
form_of-returns-in-Section t c =
    subst (λ w. IfOk c.section_form.result (λ f. form f ≡ form_of c.args.b w)) (section_is c.args.t.now _ c.in-Section.subscripts c.deref.result.now c.in-Section.is c.deref.ensures.value)
    c.section_form.ensures

pub form_of-returns-in-Apply : goal.form_of-returns-in-Apply
form_of-returns-in-Apply t c =
    subst (λ w. IfOk c.operation_form.result (λ f. form f ≡ form_of c.args.b w)) (apply_is c.args.t.now _ c.in-Apply.operands c.deref-in-Apply.result.now c.in-Apply.is c.deref-in-Apply.ensures.value)
    c.operation_form.ensures

pub operation_form-returns : goal.operation_form-returns
operation_form-returns t c = operation_vec c.args.op c.in_ok-forms_of.field-0 ∙ ap (OperationForm c.args.op) c.in_ok-forms_of.ensures

pub forms_of-returns : goal.forms_of-returns
forms_of-returns t c =
    forms_made c.loop-t.forms.items _ _ (at_drop_all (λ ts. forms_of c.loop-t.at (terms_of ts)) c.args.terms.now c.loop-t.t-index c.loop-t-test.false) c.loop-t.invariant
