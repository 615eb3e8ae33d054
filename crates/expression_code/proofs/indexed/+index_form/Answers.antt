use Rattle.std.proofs.Common.{◌≡◌, IfOk, ap, ◌∙◌, subst}
use Rattle.std.proofs.lemmas.List.{at_drop_all}
use Rattle.program_code.specs.ExpressionCode.{index_form, index_forms}
use Rattle.node_code.specs.Forms.{OperationForm}
use Rattle.node_code.specs.Texts.{form}
use Rattle.resolved_program.proofs.Forms.{apply_is, element_is}
use Rattle.node_code.proofs.Rows.{operation_vec}
use Rattle.expression_code.proofs.Lists.{forms_made}
use Rattle.resolved_program.specs.Resolved.{terms_of}
use Rattle.expression_code.proofs.indexed.+index_form.Goals as goal

pub index_form-returns-in-Element : goal.index_form-returns-in-Element
index_form-returns-in-Element t c =
    subst (λ w. IfOk c.section.result (λ f. form f ≡ index_form w)) (element_is c.args.t.now _ c.in-Element.subscripts c.deref.result.now c.in-Element.is c.deref.ensures.value) c.section.ensures

pub index_form-returns-in-Apply : goal.index_form-returns-in-Apply
index_form-returns-in-Apply t c =
    subst (λ w. IfOk c.operation.result (λ f. form f ≡ index_form w)) (apply_is c.args.t.now _ c.in-Apply.operands c.deref-in-Apply.result.now c.in-Apply.is c.deref-in-Apply.ensures.value) c.operation.ensures

pub operation-returns : goal.operation-returns
operation-returns t c = operation_vec c.args.op c.in_ok-index_forms.field-0 ∙ ap (OperationForm c.args.op) c.in_ok-index_forms.ensures

pub index_forms-returns : goal.index_forms-returns
index_forms-returns t c =
    forms_made c.loop-t.forms.items _ _ (at_drop_all (λ ts. index_forms (terms_of ts)) c.args.terms.now c.loop-t.t-index c.loop-t-test.false) c.loop-t.invariant
