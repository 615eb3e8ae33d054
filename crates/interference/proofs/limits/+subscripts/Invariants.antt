use Rattle.std.proofs.Common.{◌≡◌, drop}
use Rattle.array_meaning.specs.Forall.{subscripts_in_all}
use Rattle.array_meaning.specs.NestLimits.{are_linear_in_limits}
use Rattle.resolved_program.specs.Resolved.{terms_of}
use Rattle.term_values.specs.States.{state_of}
use Rattle.interference.proofs.limits.+subscripts.Given as goal

-- so far all are
abbrev pub invariant-are_terms_in_limits-loop-t : goal.invariant-are_terms_in_limits-loop-t
invariant-are_terms_in_limits-loop-t l =
    (are_linear_in_limits l.indices (state_of l.fn.s) (subscripts_in_all (terms_of l.t-items)) ≡ are_linear_in_limits l.indices (state_of l.fn.s) (subscripts_in_all (terms_of (drop l.t-index l.t-items))))
    × (state_of l.s ≡ state_of l.fn.s)
