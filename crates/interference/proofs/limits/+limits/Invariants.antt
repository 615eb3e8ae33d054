use Rattle.std.proofs.Common.{◌≡◌, drop}
use Rattle.array_meaning.specs.NestLimits.{are_arms_in_limits, is_block_in_limits}
use Rattle.resolved_program.specs.Resolved.{arms_of, block_of}
use Rattle.term_values.specs.States.{state_of}
use Rattle.interference.proofs.limits.+limits.Given as goal

-- so far all are
abbrev pub invariant-is_block_in_limits-loop-stmt : goal.invariant-is_block_in_limits-loop-stmt
invariant-is_block_in_limits-loop-stmt l =
    (is_block_in_limits l.indices (state_of l.fn.s) l.n (block_of l.stmt-items) ≡ is_block_in_limits l.indices (state_of l.fn.s) l.n (block_of (drop l.stmt-index l.stmt-items)))
    × (state_of l.s ≡ state_of l.fn.s)

abbrev pub invariant-are_arms_in_limits-loop-arm : goal.invariant-are_arms_in_limits-loop-arm
invariant-are_arms_in_limits-loop-arm l =
    (are_arms_in_limits l.indices (state_of l.fn.s) l.n (arms_of l.arm-items) ≡ are_arms_in_limits l.indices (state_of l.fn.s) l.n (arms_of (drop l.arm-index l.arm-items)))
    × (state_of l.s ≡ state_of l.fn.s)
