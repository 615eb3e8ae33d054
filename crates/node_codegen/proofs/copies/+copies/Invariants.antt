use Rattle.std.proofs.Common.{◌≡◌, drop, max}
use Rattle.program_code.specs.StatementCode.{arms_copies, block_copies}
use Rattle.resolved_program.specs.Resolved.{arms_of, block_of}
use Rattle.node_codegen.proofs.copies.+copies.Given as goal

-- the most so far, or of what is left, is the most of all
abbrev pub invariant-block_copies-loop-s : goal.invariant-block_copies-loop-s
invariant-block_copies-loop-s l = max l.most (block_copies l.names (block_of (drop l.s-index l.statements))) ≡ block_copies l.names (block_of l.statements)

abbrev pub invariant-arms_copies-loop-a : goal.invariant-arms_copies-loop-a
invariant-arms_copies-loop-a l = max l.most (arms_copies l.names (arms_of (drop l.a-index l.arms))) ≡ arms_copies l.names (arms_of l.arms)
