use Rattle.std.proofs.Common.{◌≡◌, drop}
use Rattle.array_meaning.specs.Terms.{list_of}
use Rattle.array_meaning.specs.Forall.{is_one_to_one}
use Rattle.resolved_program.specs.Resolved.{terms_of}
use Rattle.term_values.specs.States.{state_of}
use Rattle.forall_conditions.proofs.one_to_one.is_one_to_one.Given as goal

-- what is left to check from here is all
abbrev pub invariant-loop-k : goal.invariant-loop-k
invariant-loop-k l =
    is_one_to_one (state_of l.s) (list_of (terms_of l.subscripts.items)) 0 l.extents ≡ is_one_to_one (state_of l.s) (list_of (terms_of l.subscripts.items)) l.k (drop l.k l.extents)
