use Rattle.std.proofs.Common.{◌≡◌, ◌∙◌, ◌+◌, ap, sym, subst, drop, Ok, IfOk, IfErr}
use Rattle.std.proofs.lemmas.List.{drop_all}
use Rattle.array_meaning.specs.Elementals.{Operation}
use Rattle.array_meaning.specs.Expressions.{elementals}
use Rattle.array_meaning.specs.Faults.{◌>>=◌}
use Rattle.expression_rules.proofs.Lists.{drop_item}
use Rattle.resolved_program.specs.Resolved.{terms_of}
use Rattle.term_values.proofs.Operands.{all_operands, before_operands, operand_after, operation_vec}
use Rattle.term_values.specs.States.{state_of}
use Rattle.term_values.specs.Stops.{IsStop}
use Rattle.term_values.specs.Views.{elemental}
use Rattle.term_values.proofs.Parts.{element_value_is, operation_value_is, operation_is, same_element_is, selected_is}
use Rattle.term_values.proofs.expressions.+value.Goals as goal

pub value-returns-in-Element-clause-value : goal.value-returns-in-Element-clause-value
value-returns-in-Element-clause-value t c =
    subst (λ r. IfOk c.element_value.result (λ v. r ≡ Ok v)) (element_value_is c.args.indices.now (state_of c.args.s.now) c.args.t.now c.in-Element.a c.in-Element.subscripts c.in-Element.is) c.element_value.ensures.value

pub value-returns-in-Element-clause-stopped : goal.value-returns-in-Element-clause-stopped
value-returns-in-Element-clause-stopped t c =
    subst (λ r. IfErr c.element_value.result (IsStop r)) (element_value_is c.args.indices.now (state_of c.args.s.now) c.args.t.now c.in-Element.a c.in-Element.subscripts c.in-Element.is) c.element_value.ensures.stopped

pub value-returns-in-Apply-clause-value : goal.value-returns-in-Apply-clause-value
value-returns-in-Apply-clause-value t c =
    subst (λ r. IfOk c.operation_value.result (λ v. r ≡ Ok v)) (operation_value_is c.args.indices.now (state_of c.args.s.now) c.args.t.now c.in-Apply.op c.in-Apply.operands c.in-Apply.is) c.operation_value.ensures.value

pub value-returns-in-Apply-clause-stopped : goal.value-returns-in-Apply-clause-stopped
value-returns-in-Apply-clause-stopped t c =
    subst (λ r. IfErr c.operation_value.result (IsStop r)) (operation_value_is c.args.indices.now (state_of c.args.s.now) c.args.t.now c.in-Apply.op c.in-Apply.operands c.in-Apply.is) c.operation_value.ensures.stopped

pub elemental_of-returns-in-Element-clause-value : goal.elemental_of-returns-in-Element-clause-value
elemental_of-returns-in-Element-clause-value t c =
    subst (λ r. IfOk c.same_element.result (λ x. r ≡ Ok (elemental x))) (same_element_is c.args.indices.now (state_of c.args.s.now) c.args.t.now c.in-Element.a c.in-Element.subscripts c.in-Element.is) c.same_element.ensures.value

pub elemental_of-returns-in-Element-clause-stopped : goal.elemental_of-returns-in-Element-clause-stopped
elemental_of-returns-in-Element-clause-stopped t c =
    subst (λ r. IfErr c.same_element.result (IsStop r)) (same_element_is c.args.indices.now (state_of c.args.s.now) c.args.t.now c.in-Element.a c.in-Element.subscripts c.in-Element.is) c.same_element.ensures.stopped

pub elemental_of-returns-in-Section-clause-value : goal.elemental_of-returns-in-Section-clause-value
elemental_of-returns-in-Section-clause-value t c =
    subst (λ r. IfOk c.selected.result (λ x. r ≡ Ok (elemental x))) (selected_is c.args.indices.now (state_of c.args.s.now) c.args.t.now c.in-Section.a c.in-Section.subscripts c.in-Section.is) c.selected.ensures.value

pub elemental_of-returns-in-Section-clause-stopped : goal.elemental_of-returns-in-Section-clause-stopped
elemental_of-returns-in-Section-clause-stopped t c =
    subst (λ r. IfErr c.selected.result (IsStop r)) (selected_is c.args.indices.now (state_of c.args.s.now) c.args.t.now c.in-Section.a c.in-Section.subscripts c.in-Section.is) c.selected.ensures.stopped

pub elemental_of-returns-in-Apply-clause-value : goal.elemental_of-returns-in-Apply-clause-value
elemental_of-returns-in-Apply-clause-value t c =
    subst (λ r. IfOk c.operation.result (λ x. r ≡ Ok (elemental x))) (operation_is c.args.indices.now (state_of c.args.s.now) c.args.t.now c.in-Apply.op c.in-Apply.operands c.in-Apply.is) c.operation.ensures.value

pub elemental_of-returns-in-Apply-clause-stopped : goal.elemental_of-returns-in-Apply-clause-stopped
elemental_of-returns-in-Apply-clause-stopped t c =
    subst (λ r. IfErr c.operation.result (IsStop r)) (operation_is c.args.indices.now (state_of c.args.s.now) c.args.t.now c.in-Apply.op c.in-Apply.operands c.in-Apply.is) c.operation.ensures.stopped

pub elementals-loop-t-preserved : goal.elementals-loop-t-preserved
elementals-loop-t-preserved t c =
    c.loop-t.invariant
    ∙ ap (λ ts. before_operands c.loop-t.xs.items (elementals c.args.indices.now (state_of c.args.s.now) (terms_of ts))) (drop_item _ c.loop-t.t-index _ c.loop-t-test.true c.t-item.is)
    ∙ operand_after c.loop-t.xs.items _ _ c.in_ok-x.x c.in_ok-x.ensures.value
    ∙ ap (λ xs. before_operands xs (elementals c.args.indices.now (state_of c.args.s.now) (terms_of (drop (c.loop-t.t-index + 1) c.deref-t-items.result.now)))) (sym c.in_ok-push.ensures.items)

pub elementals-returns-clause-value : goal.elementals-returns-clause-value
elementals-returns-clause-value t c =
    ap (λ ts. elementals c.args.indices.now (state_of c.args.s.now) (terms_of ts)) (sym c.deref-t-items.ensures.value)
    ∙ c.loop-t.invariant
    ∙ ap (λ ts. before_operands c.loop-t.xs.items (elementals c.args.indices.now (state_of c.args.s.now) (terms_of ts))) (drop_all _ _ c.loop-t-test.false)
    ∙ all_operands c.loop-t.xs.items

pub operation-returns-clause-value : goal.operation-returns-clause-value
operation-returns-clause-value t c =
    ap (λ r. r >>= (λ xs. Ok (Operation c.args.op xs))) c.in_ok-xs.ensures.value ∙ ap Ok (sym (operation_vec c.args.op c.in_ok-xs.xs))
