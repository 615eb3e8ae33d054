use Rattle.std.proofs.Common.{◌≡◌, drop}
use Rattle.array_meaning.specs.Forall.{subscripts_in_all}
use Rattle.resolved_program.specs.Resolved.{terms_of}
use Rattle.term_values.specs.States.{state_of}
use Rattle.forall_conditions.specs.Linears.{are_in_limits}
use Rattle.forall_conditions.proofs.forall_limits.+limits.Given as goal

-- so far all are
abbrev pub invariant-are_terms_in_limits-loop-t : goal.invariant-are_terms_in_limits-loop-t
invariant-are_terms_in_limits-loop-t l =
    are_in_limits (state_of l.s) (subscripts_in_all (terms_of l.t-items)) ≡ are_in_limits (state_of l.s) (subscripts_in_all (terms_of (drop l.t-index l.t-items)))
