use Rattle.std.proofs.Common.{◌≡◌, drop}
use Rattle.array_meaning.specs.Statements.{Then}
use Rattle.resolved_program.specs.Made.{before}
use Rattle.resolved_program.specs.Resolved.{arms_of, block_of, statement, with_arm}
use Rattle.resolved_program.proofs.copies.+copied_block.Given as goal

-- what is made so far, before what is left, is all
abbrev pub invariant-copied_block-loop-s : goal.invariant-copied_block-loop-s
invariant-copied_block-loop-s l = before (λ s. Then s.line (statement s.what)) l.made.items (block_of (drop l.s-index l.statements)) ≡ block_of l.statements

abbrev pub invariant-copied_arms-loop-a : goal.invariant-copied_arms-loop-a
invariant-copied_arms-loop-a l = before with_arm l.made.items (arms_of (drop l.a-index l.arms)) ≡ arms_of l.arms
