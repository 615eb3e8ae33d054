use Rattle.std.proofs.Common.{◌≡◌, ◌++◌, drop, map}
use Rattle.array_meaning.specs.Forall.{linears}
use Rattle.resolved_program.specs.Resolved.{terms_of}
use Rattle.term_values.specs.States.{state_of}
use Rattle.forall_conditions.specs.Linears.{linear_of}
use Rattle.forall_conditions.proofs.linear_forms.+linear.Given as goal

-- the forms so far, before those that are left
abbrev pub invariant-linears-loop-t : goal.invariant-linears-loop-t
invariant-linears-loop-t l = linears (state_of l.s) (terms_of l.t-items) ≡ map linear_of l.xs.items ++ linears (state_of l.s) (terms_of (drop l.t-index l.t-items))
