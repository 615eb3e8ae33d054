use Rattle.std.proofs.Common.{drop}
use Rattle.fitting_states.specs.FittingStates.{SubscriptsFit, TermsFit}
use Rattle.resolved_program.specs.Resolved.{subscripts_of, terms_of}
use Rattle.fitting_numbers.proofs.terms.+term_fits.Given as goal

-- all fit where those that are left do
abbrev pub invariant-terms_fit-loop-t : goal.invariant-terms_fit-loop-t
invariant-terms_fit-loop-t l = TermsFit (terms_of (drop l.t-index l.terms)) → TermsFit (terms_of l.terms)

abbrev pub invariant-subscripts_fit-loop-d : goal.invariant-subscripts_fit-loop-d
invariant-subscripts_fit-loop-d l = SubscriptsFit (subscripts_of (drop l.d-index l.subscripts)) → SubscriptsFit (subscripts_of l.subscripts)
