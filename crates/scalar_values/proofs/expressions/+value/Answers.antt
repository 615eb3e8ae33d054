use Rattle.std.proofs.Common.{subst}
use Rattle.term_values.proofs.Parts.{element_value_is, operation_value_is}
use Rattle.term_values.specs.States.{state_of}
use Rattle.scalar_values.specs.Known.{IsKnown}
use Rattle.scalar_values.proofs.expressions.+value.Goals as goal

pub value-returns-in-Apply : goal.value-returns-in-Apply
value-returns-in-Apply g t c =
    subst (λ r. IsKnown r c.operation.result)
    (operation_value_is (g.I.Indices.values c.args.indices.now) (state_of c.args.s.now) c.args.t.now c.in-Apply.op c.in-Apply.operands c.in-Apply.is)
    c.operation.ensures

pub value_of_element-returns-in-Element : goal.value_of_element-returns-in-Element
value_of_element-returns-in-Element g t c =
    subst (λ r. IsKnown r c.element.result)
    (element_value_is (g.I.Indices.values c.args.indices.now) (state_of c.args.s.now) c.args.t.now c.in-Element.a c.in-Element.subscripts c.in-Element.is)
    c.element.ensures
