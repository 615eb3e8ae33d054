use Rattle.std.proofs.Common.{subst, sym, ap, ◌∙◌}
use Rattle.array_meaning.specs.Statements.{If}
use Rattle.resolved_program.specs.Resolved.{arms_of, block_of, loop_of, statement}
use Rattle.resolved_program.proofs.Rows.{arm_parts, do_vec, if_vec}
use Rattle.fitting_states.specs.FittingStates.{ArmsFit, BlockFits, StatementFits}
use Rattle.fitting_numbers.proofs.FittingMarks.{mark_fits}
use Rattle.fitting_numbers.proofs.statements.+block_fits.Goals as goal

pub arm_fits-returns : goal.arm_fits-returns
arm_fits-returns t c = λ rest fit.
    subst ArmsFit (sym (arm_parts c.args.a.now rest)) (c.term_fits.ensures, subst (λ l. BlockFits (block_of l)) c.deref.ensures.value c.block_fits.ensures, fit)

pub statement_fits-returns-in-If : goal.statement_fits-returns-in-If
statement_fits-returns-in-If t c =
    subst StatementFits
    ((λ i. If (arms_of (c.deref-in-If.ensures.value i)) (block_of (c.deref-in-If-2.ensures.value i))) ∙ sym (ap statement c.in-If.is ∙ if_vec c.in-If.arms c.in-If.other))
    (c.arms_fit.ensures, c.block_fits.ensures)

pub statement_fits-returns-in-Do : goal.statement_fits-returns-in-Do
statement_fits-returns-in-Do t c =
    let fits : BlockFits (block_of c.in-Do.body.items) = subst (λ l. BlockFits (block_of l)) c.deref-in-Do.ensures.value c.block_fits-in-Do.ensures in
    subst StatementFits (sym (ap statement c.in-Do.is ∙ do_vec c.in-Do.field-0 c.in-Do.l c.in-Do.body))
    (mark_fits c.in-Do.field-0 (loop_of c.in-Do.l) (block_of c.in-Do.body.items) c.control_fits.ensures fits, c.control_fits.ensures, fits)
