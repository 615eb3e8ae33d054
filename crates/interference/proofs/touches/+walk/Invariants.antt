use Rattle.std.proofs.Common.{◌≡◌, ℤ, List, drop}
use Rattle.array_meaning.specs.State.{set_scalar}
use Rattle.array_meaning.specs.Iterations.{turn_value}
use Rattle.array_meaning.specs.Touches.{Touch}
use Rattle.resolved_program.specs.Resolved.{arms_of, block_of}
use Rattle.term_values.specs.States.{state_of}
use Rattle.interference.specs.Walks.{turned, walk_of, walked, walked_arms}
use Rattle.interference.proofs.touches.+walk.Given as goal

-- what is left leads to the whole, in the state as it was
abbrev pub invariant-note_block-loop-stmt : goal.invariant-note_block-loop-stmt
invariant-note_block-loop-stmt l =
    (walked (walk_of l.w) (state_of l.s) (block_of (drop l.stmt-index l.stmt-items)) ≡ walked (walk_of l.fn.w) (state_of l.fn.s) (block_of l.fn.statements.items))
    × (state_of l.s ≡ state_of l.fn.s)

abbrev pub invariant-note_arms-loop-arm : goal.invariant-note_arms-loop-arm
invariant-note_arms-loop-arm l =
    ((other : List Touch) → walked_arms (walk_of l.fn.w) (state_of l.fn.s) (arms_of l.fn.arms.items) other ≡ walked_arms (walk_of l.w) (state_of l.s) (arms_of (drop l.arm-index l.arm-items)) other)
    × (state_of l.s ≡ state_of l.fn.s)

-- the turns so far, and the index in the next one
abbrev pub invariant-note_turns-loop : goal.invariant-note_turns-loop
invariant-note_turns-loop l =
    (walk_of l.w ≡ turned (walk_of l.fn.w) (state_of l.fn.s) l.index l.p (block_of l.body.items) l.counter)
    × ((v : ℤ) → set_scalar (state_of l.s) l.index v ≡ set_scalar (state_of l.fn.s) l.index v)
    × (l.at.value ≡ turn_value l.p l.counter)
