use Rattle.std.proofs.Common.{◌≡◌, drop}
use Rattle.array_meaning.specs.NestLimits.{with_all}
use Rattle.term_values.specs.States.{state_of}
use Rattle.interference.proofs.indices.set_all.Given as goal

-- what is left to set
abbrev pub invariant-loop-x : goal.invariant-loop-x
invariant-loop-x l = with_all l.indices l.value (state_of l.fn.s) ≡ with_all (drop l.x-index l.indices) l.value (state_of l.s)
