use Rattle.std.proofs.Common.{◌≡◌, IfOk, ap, ◌∙◌, subst}
use Rattle.std.proofs.lemmas.List.{at_drop_all}
use Rattle.program_code.specs.ExpressionCode.{index_form, index_forms}
use Rattle.nest_syntax.specs.NestTerms.{all_indexed, indexed}
use Rattle.statement_trail.specs.NestParts.{index_in}
use Rattle.node_code.specs.Forms.{OperationForm}
use Rattle.node_code.specs.Texts.{form}
use Rattle.node_code.proofs.Rows.{operation_vec}
use Rattle.resolved_program.proofs.Forms.{apply_is, element_is}
use Rattle.resolved_program.specs.Resolved.{terms_of}
use Rattle.expression_code.proofs.Lists.{forms_made}
use Rattle.node_codegen.proofs.nest_terms.+nest_form.Goals as goal

pub nest_form-returns-in-Element : goal.nest_form-returns-in-Element
nest_form-returns-in-Element t c =
    subst (λ w. IfOk c.section.result (λ f. form f ≡ index_form (indexed (index_in c.args.axes.now 0) w)))
    (element_is c.args.t.now _ c.in-Element.subscripts c.deref.result.now c.in-Element.is c.deref.ensures.value) c.section.ensures

pub nest_form-returns-in-Apply : goal.nest_form-returns-in-Apply
nest_form-returns-in-Apply t c =
    subst (λ w. IfOk c.operation.result (λ f. form f ≡ index_form (indexed (index_in c.args.axes.now 0) w)))
    (apply_is c.args.t.now _ c.in-Apply.operands c.deref-in-Apply.result.now c.in-Apply.is c.deref-in-Apply.ensures.value) c.operation.ensures

pub operation-returns : goal.operation-returns
operation-returns t c = operation_vec c.args.op c.in_ok-nest_forms.field-0 ∙ ap (OperationForm c.args.op) c.in_ok-nest_forms.ensures

pub nest_forms-returns : goal.nest_forms-returns
nest_forms-returns t c =
    forms_made c.loop-t.forms.items _ _ (at_drop_all (λ ts. index_forms (all_indexed (index_in c.args.axes.now 0) (terms_of ts))) c.args.terms.now c.loop-t.t-index c.loop-t-test.false)
    c.loop-t.invariant
