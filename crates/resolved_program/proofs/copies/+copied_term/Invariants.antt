use Rattle.std.proofs.Common.{◌≡◌, drop}
use Rattle.resolved_program.specs.Made.{before, terms_before}
use Rattle.resolved_program.specs.Resolved.{subscripts_of, terms_of, with_subscript}
use Rattle.resolved_program.proofs.copies.+copied_term.Given as goal

-- what is made so far, before what is left, is all
abbrev pub invariant-copied_terms-loop-t : goal.invariant-copied_terms-loop-t
invariant-copied_terms-loop-t l = terms_before l.made.items (terms_of (drop l.t-index l.terms)) ≡ terms_of l.terms

abbrev pub invariant-copied_subscripts-loop-d : goal.invariant-copied_subscripts-loop-d
invariant-copied_subscripts-loop-d l = before with_subscript l.made.items (subscripts_of (drop l.d-index l.subscripts)) ≡ subscripts_of l.subscripts
