use Rattle.std.proofs.Common.{◌≡◌, drop}
use Rattle.array_meaning.specs.Terms.{list_of}
use Rattle.array_meaning.specs.NestLimits.{are_linear_in_limits}
use Rattle.resolved_program.specs.Resolved.{terms_of}
use Rattle.term_values.specs.States.{state_of}
use Rattle.interference.proofs.limits.is_listed_in_limits.Given as goal

-- so far all are
abbrev pub invariant-loop-t : goal.invariant-loop-t
invariant-loop-t l =
    (are_linear_in_limits l.indices (state_of l.fn.s) (list_of (terms_of l.t-items)) ≡ are_linear_in_limits l.indices (state_of l.fn.s) (list_of (terms_of (drop l.t-index l.t-items))))
    × (state_of l.s ≡ state_of l.fn.s)
