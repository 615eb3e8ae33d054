use Rattle.std.proofs.Common.{subst}
use Rattle.resolved_program.proofs.Forms.{apply_is, element_is, section_is}
use Rattle.fitting_states.specs.FittingStates.{TermFits}
use Rattle.fitting_numbers.proofs.terms.+term_fits.Goals as goal

pub term_fits-returns-in-Element : goal.term_fits-returns-in-Element
term_fits-returns-in-Element t c =
    subst TermFits (element_is c.args.t.now c.in-Element.field-0 c.in-Element.subscripts c.deref.result.now c.in-Element.is c.deref.ensures.value) c.terms_fit.ensures

pub term_fits-returns-in-Section : goal.term_fits-returns-in-Section
term_fits-returns-in-Section t c =
    subst TermFits (section_is c.args.t.now c.in-Section.field-0 c.in-Section.subscripts c.deref-in-Section.result.now c.in-Section.is c.deref-in-Section.ensures.value)
    c.subscripts_fit.ensures

pub term_fits-returns-in-Apply : goal.term_fits-returns-in-Apply
term_fits-returns-in-Apply t c =
    subst TermFits (apply_is c.args.t.now c.in-Apply.field-0 c.in-Apply.operands c.deref-in-Apply.result.now c.in-Apply.is c.deref-in-Apply.ensures.value) c.terms_fit-in-Apply.ensures
