use Rattle.std.proofs.Common.{◌≡◌, ◌++◌, drop}
use Rattle.array_meaning.specs.Touches.{assigned_in, assigned_in_arms}
use Rattle.resolved_program.specs.Resolved.{arms_of, block_of}
use Rattle.interference.proofs.assigned.+assigned.Given as goal

-- those so far, before those of what is left
abbrev pub invariant-add_assigned-loop-stmt : goal.invariant-add_assigned-loop-stmt
invariant-add_assigned-loop-stmt l = l.names.items ++ assigned_in (block_of (drop l.stmt-index l.stmt-items)) ≡ l.fn.names.items ++ assigned_in (block_of l.fn.statements.items)

abbrev pub invariant-add_assigned_in_arms-loop-arm : goal.invariant-add_assigned_in_arms-loop-arm
invariant-add_assigned_in_arms-loop-arm l = l.names.items ++ assigned_in_arms (arms_of (drop l.arm-index l.arm-items)) ≡ l.fn.names.items ++ assigned_in_arms (arms_of l.fn.arms.items)
