use Rattle.std.proofs.Common.{◌≡◌, drop}
use Rattle.array_meaning.specs.Terms.{list_of}
use Rattle.resolved_program.specs.Resolved.{terms_of}
use Rattle.term_values.specs.States.{state_of}
use Rattle.forall_conditions.specs.Linears.{are_in_limits}
use Rattle.forall_conditions.proofs.forall_limits.is_listed_in_limits.Given as goal

-- so far all are
abbrev pub invariant-loop-t : goal.invariant-loop-t
invariant-loop-t l = are_in_limits (state_of l.s) (list_of (terms_of l.t-items)) ≡ are_in_limits (state_of l.s) (list_of (terms_of (drop l.t-index l.t-items)))
