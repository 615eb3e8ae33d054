use Rattle.std.proofs.Common.{◌≡◌, drop}
use Rattle.program_code.specs.ExpressionCode.{first_subs_of, forms_of}
use Rattle.resolved_program.specs.Resolved.{terms_of}
use Rattle.expression_code.proofs.evaluations.+space.Given as goal

-- the first section is one of the rest
abbrev pub invariant-first_subs_of-loop-t : goal.invariant-first_subs_of-loop-t
invariant-first_subs_of-loop-t l = first_subs_of (forms_of l.at (terms_of (drop l.t-index l.terms))) ≡ first_subs_of (forms_of l.b (terms_of l.terms))
