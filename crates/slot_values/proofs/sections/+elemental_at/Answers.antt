use Rattle.std.proofs.Common.{◌∙◌, ◌+◌, ap, sym, drop}
use Rattle.std.proofs.lemmas.List.{drop_all}
use Rattle.expression_rules.proofs.Lists.{drop_item}
use Rattle.array_meaning.specs.Elementals.{Operand, Operation}
use Rattle.code_meaning.specs.Forms.{elementals_at}
use Rattle.node_code.specs.Texts.{forms_of}
use Rattle.term_values.specs.Views.{elemental}
use Rattle.resolved_program.specs.Made.{before}
use Rattle.term_values.proofs.Operands.{operation_vec}
use Rattle.slot_values.proofs.Operands.{all_operands, before_next, operation_is}
use Rattle.slot_values.proofs.sections.+elemental_at.Goals as goal

pub elementals_at-loop-x-preserved : goal.elementals_at-loop-x-preserved
elementals_at-loop-x-preserved t c =
    c.loop-x.invariant
    ∙ ap (λ xs. before (λ e. Operand (elemental e)) c.loop-x.es.items (elementals_at c.args.slots.now c.args.axes.now (forms_of xs))) (drop_item _ c.loop-x.x-index _ c.loop-x-test.true c.x-item.is)
    ∙ ap (λ e. before (λ e. Operand (elemental e)) c.loop-x.es.items (Operand e (elementals_at c.args.slots.now c.args.axes.now (forms_of (drop (c.loop-x.x-index + 1) c.deref-x-items.result.now))))) (sym c.in_ok-e.ensures)
    ∙ before_next (λ e. Operand (elemental e)) c.loop-x.es.items c.in_ok-e.e _
    ∙ ap (λ es. before (λ e. Operand (elemental e)) es (elementals_at c.args.slots.now c.args.axes.now (forms_of (drop (c.loop-x.x-index + 1) c.deref-x-items.result.now)))) (sym c.in_ok-push.ensures.items)

pub elementals_at-returns : goal.elementals_at-returns
elementals_at-returns t c =
    sym (ap (λ xs. elementals_at c.args.slots.now c.args.axes.now (forms_of xs)) (sym c.deref-x-items.ensures.value)
    ∙ c.loop-x.invariant
    ∙ ap (λ xs. before (λ e. Operand (elemental e)) c.loop-x.es.items (elementals_at c.args.slots.now c.args.axes.now (forms_of xs))) (drop_all _ _ c.loop-x-test.false)
    ∙ all_operands c.loop-x.es.items)

pub elemental_at-returns-in_ok-elementals_at-in-Operation : goal.elemental_at-returns-in_ok-elementals_at-in-Operation
elemental_at-returns-in_ok-elementals_at-in-Operation t c =
    operation_vec c.in-Operation.op c.in_ok-elementals_at-in-Operation.field-0
    ∙ ap (Operation c.in-Operation.op) c.in_ok-elementals_at-in-Operation.ensures
    ∙ operation_is c.args.slots.now c.args.axes.now c.args.x.now c.in-Operation.op c.in-Operation.operands c.in-Operation.is
