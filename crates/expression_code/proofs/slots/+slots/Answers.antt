use Rattle.std.proofs.Common.{◌≡◌, IfOk, subst}
use Rattle.program_code.specs.ExpressionCode.{parts_slots, slots_of}
use Rattle.resolved_program.proofs.Forms.{apply_is, element_is, section_is}
use Rattle.expression_code.proofs.slots.+slots.Goals as goal

pub slots_of-returns-in-Element : goal.slots_of-returns-in-Element
slots_of-returns-in-Element t c =
    subst (λ w. IfOk c.element_slots.result (λ n. n ≡ slots_of w)) (element_is c.args.t.now _ c.in-Element.subscripts c.deref.result.now c.in-Element.is c.deref.ensures.value)
    c.element_slots.ensures

pub slots_of-returns-in-Apply : goal.slots_of-returns-in-Apply
slots_of-returns-in-Apply t c =
    subst (λ w. IfOk c.operation_slots.result (λ n. n ≡ slots_of w)) (apply_is c.args.t.now _ c.in-Apply.operands c.deref-in-Apply.result.now c.in-Apply.is c.deref-in-Apply.ensures.value)
    c.operation_slots.ensures

pub parts_slots-returns-in-Element : goal.parts_slots-returns-in-Element
parts_slots-returns-in-Element t c =
    subst (λ w. IfOk c.element_slots.result (λ n. n ≡ parts_slots w)) (element_is c.args.t.now _ c.in-Element.subscripts c.deref.result.now c.in-Element.is c.deref.ensures.value)
    c.element_slots.ensures

pub parts_slots-returns-in-Section : goal.parts_slots-returns-in-Section
parts_slots-returns-in-Section t c =
    subst (λ w. IfOk c.subscripts_slots.result (λ n. n ≡ parts_slots w)) (section_is c.args.t.now _ c.in-Section.subscripts c.deref-in-Section.result.now c.in-Section.is c.deref-in-Section.ensures.value)
    c.subscripts_slots.ensures

pub parts_slots-returns-in-Apply : goal.parts_slots-returns-in-Apply
parts_slots-returns-in-Apply t c =
    subst (λ w. IfOk c.all_parts_slots.result (λ n. n ≡ parts_slots w)) (apply_is c.args.t.now _ c.in-Apply.operands c.deref-in-Apply.result.now c.in-Apply.is c.deref-in-Apply.ensures.value)
    c.all_parts_slots.ensures
