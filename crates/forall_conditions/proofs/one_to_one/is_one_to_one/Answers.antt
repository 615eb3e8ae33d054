use Rattle.std.proofs.Common.{get_or, sym, ap, ◌∙◌}
use Rattle.resolved_program.specs.Resolved.{terms_of}
use Rattle.term_values.specs.States.{state_of}
use Rattle.forall_conditions.specs.Linears.{is_covered}
use Rattle.forall_conditions.proofs.OneToOne.{covered, uncovered}
use Rattle.forall_conditions.proofs.one_to_one.is_one_to_one.Goals as goal

pub returns-then-not-is_covered : goal.returns-then-not-is_covered
returns-then-not-is_covered c =
    sym (c.loop-k.invariant
    ∙ uncovered (state_of c.args.s.now) (terms_of c.args.subscripts.now.items) c.in_ok-xs.xs.items c.args.extents.now c.loop-k.k c.loop-k-test.true c.in_ok-xs.ensures
    (ap (λ xs. is_covered xs c.loop-k.k (get_or c.args.extents.now c.loop-k.k 0)) (sym c.deref.ensures.value) ∙ sym c.is_covered.ensures ∙ c.if-not-is_covered.true))

pub loop-k-preserved : goal.loop-k-preserved
loop-k-preserved c =
    c.loop-k.invariant
    ∙ covered (state_of c.args.s.now) (terms_of c.args.subscripts.now.items) c.in_ok-xs.xs.items c.args.extents.now c.loop-k.k c.loop-k-test.true c.in_ok-xs.ensures
    (ap (λ xs. is_covered xs c.loop-k.k (get_or c.args.extents.now c.loop-k.k 0)) (sym c.deref.ensures.value) ∙ sym c.is_covered.ensures ∙ c.if-not-is_covered.false)
