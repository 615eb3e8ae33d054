use Rattle.std.proofs.Common.{◌≡◌}
use Rattle.resolved_program.specs.Resolved.{block_of}
use Rattle.term_values.specs.States.{state_of}
use Rattle.interference.specs.AllVisits.{IsBefore}
use Rattle.interference.specs.Walks.{walk_of}
use Rattle.interference.proofs.clashes.walk_all.Given as goal

-- the iterations so far, in the state as it was
abbrev pub invariant-loop-i : goal.invariant-loop-i
invariant-loop-i l = IsBefore l.nest l.space (block_of l.innermost.items) (state_of l.fn.s) l.i (walk_of l.w) × (state_of l.s ≡ state_of l.fn.s)
