use Rattle.std.proofs.Common.{◌≡◌, subst, IfOk}
use Rattle.term_values.specs.States.{state_of}
use Rattle.forall_conditions.specs.Linears.{linear_of}
use Rattle.forall_conditions.proofs.Linears.{apply_linear, apply_index_free}
use Rattle.forall_conditions.proofs.linear_forms.+linear.Goals as goal

pub linear-returns-in-Some : goal.linear-returns-in-Some
linear-returns-in-Some t c =
    apply_linear c.args.t.now c.in-Apply.op c.in-Apply.operands (state_of c.args.s.now) c.in_ok-xs-in-Apply.xs.items c.deref.result.now (linear_of c.in-Some.x)
    c.in-Apply.is c.in_ok-xs-in-Apply.ensures c.deref.ensures.value c.in-Some.ensures

pub linear-returns-in-Apply : goal.linear-returns-in-Apply
linear-returns-in-Apply t c =
    subst (λ r. IfOk c.index_free.result (λ x. linear_of x ≡ r))
    (apply_index_free c.args.t.now c.in-Apply.op c.in-Apply.operands (state_of c.args.s.now) c.in_ok-xs-in-Apply.xs.items c.deref.result.now
    c.in-Apply.is c.in_ok-xs-in-Apply.ensures c.deref.ensures.value c.in-None.ensures)
    c.index_free.ensures
