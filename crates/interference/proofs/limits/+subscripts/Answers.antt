use Rattle.std.proofs.Common.{◌≡◌, ap, sym, subst, ◌∙◌, IfOk}
use Rattle.resolved_program.specs.Resolved.{term}
use Rattle.resolved_program.proofs.Rows.{apply_vec, element_vec}
use Rattle.array_meaning.specs.Forall.{subscripts_in}
use Rattle.array_meaning.specs.NestLimits.{are_linear_in_limits}
use Rattle.term_values.specs.States.{state_of}
use Rattle.interference.proofs.limits.+subscripts.Goals as goal

pub is_term_in_limits-returns-in-Element-clause-limits : goal.is_term_in_limits-returns-in-Element-clause-limits
is_term_in_limits-returns-in-Element-clause-limits t c =
    subst (λ ts. IfOk c.is_listed_in_limits.result (λ b. b ≡ are_linear_in_limits c.args.indices.now (state_of c.args.s.now) ts))
    (sym (ap subscripts_in (ap term c.in-Element.is ∙ element_vec c.in-Element.field-0 c.in-Element.subscripts))) c.is_listed_in_limits.ensures.limits

pub is_term_in_limits-returns-in-Apply-clause-limits : goal.is_term_in_limits-returns-in-Apply-clause-limits
is_term_in_limits-returns-in-Apply-clause-limits t c =
    subst (λ ts. IfOk c.are_terms_in_limits.result (λ b. b ≡ are_linear_in_limits c.args.indices.now (state_of c.args.s.now) ts))
    (sym (ap subscripts_in (ap term c.in-Apply.is ∙ apply_vec c.in-Apply.field-0 c.in-Apply.operands))) c.are_terms_in_limits.ensures.limits
