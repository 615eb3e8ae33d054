use Rattle.std.proofs.Common.{◌≡◌, drop, max}
use Rattle.resolved_program.specs.Resolved.{arms_of, block_of}
use Rattle.program_code.specs.StatementCode.{arms_slots, block_slots}
use Rattle.node_codegen.proofs.slots.+slots.Given as goal

-- the most so far, or of what is left, is the most of all
abbrev pub invariant-block_slots-loop-s : goal.invariant-block_slots-loop-s
invariant-block_slots-loop-s l = max l.most (block_slots (block_of (drop l.s-index l.statements))) ≡ block_slots (block_of l.statements)

abbrev pub invariant-arms_slots-loop-a : goal.invariant-arms_slots-loop-a
invariant-arms_slots-loop-a l = max l.most (arms_slots (arms_of (drop l.a-index l.arms))) ≡ arms_slots (arms_of l.arms)
