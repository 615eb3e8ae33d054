use Rattle.std.proofs.Common.{◌≡◌, ◌++◌, drop, map}
use Rattle.array_meaning.specs.State.{scalar}
use Rattle.term_values.specs.States.{state_of}
use Rattle.interference.proofs.indices.kept.Given as goal

-- the values so far, before those of the indices that are left
abbrev pub invariant-loop-x : goal.invariant-loop-x
invariant-loop-x l = map (scalar (state_of l.s)) l.indices ≡ l.values.items ++ map (scalar (state_of l.s)) (drop l.x-index l.indices)
