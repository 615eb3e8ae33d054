use Rattle.std.proofs.Common.{◌≡◌, drop, map}
use Rattle.array_meaning.specs.Forall.{body_subscripts}
use Rattle.resolved_program.specs.Resolved.{element_assignment}
use Rattle.term_values.specs.States.{state_of}
use Rattle.forall_conditions.specs.Linears.{are_in_limits}
use Rattle.forall_conditions.proofs.forall_limits.is_body_in_limits.Given as goal

-- so far all are
abbrev pub invariant-loop-b : goal.invariant-loop-b
invariant-loop-b l =
    are_in_limits (state_of l.s) (body_subscripts (map element_assignment l.body)) ≡ are_in_limits (state_of l.s) (body_subscripts (map element_assignment (drop l.b-index l.body)))
