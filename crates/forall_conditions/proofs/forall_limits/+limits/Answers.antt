use Rattle.std.proofs.Common.{◌≡◌, subst, IfOk}
use Rattle.term_values.specs.States.{state_of}
use Rattle.forall_conditions.specs.Linears.{are_in_limits}
use Rattle.forall_conditions.proofs.Subscripts.{apply_subscripts, element_subscripts}
use Rattle.forall_conditions.proofs.forall_limits.+limits.Goals as goal

pub is_term_in_limits-returns-in-Element : goal.is_term_in_limits-returns-in-Element
is_term_in_limits-returns-in-Element t c =
    subst (λ ts. IfOk c.is_listed_in_limits.result (λ b. b ≡ are_in_limits (state_of c.args.s.now) ts))
    (element_subscripts c.args.t.now c.in-Element.field-0 c.in-Element.subscripts c.in-Element.is) c.is_listed_in_limits.ensures

pub is_term_in_limits-returns-in-Apply : goal.is_term_in_limits-returns-in-Apply
is_term_in_limits-returns-in-Apply t c =
    subst (λ ts. IfOk c.are_terms_in_limits.result (λ b. b ≡ are_in_limits (state_of c.args.s.now) ts))
    (apply_subscripts c.args.t.now c.in-Apply.field-0 c.in-Apply.operands c.in-Apply.is) c.are_terms_in_limits.ensures
