use Rattle.std.proofs.Common.{◌≡◌, drop}
use Rattle.syntax_tree.specs.Statement as syntax
use Rattle.array_meaning.specs.Statements.{Then}
use Rattle.array_meaning.specs.Resolution.{resolved_arms, resolved_block}
use Rattle.resolved_program.specs.Made.{before}
use Rattle.resolved_program.specs.Resolved.{statement, with_arm}
use Rattle.program_plan.proofs.blocks.+block.Given as goal

-- what is made so far, before what the rest makes, is all
abbrev pub invariant-block-loop-stmt : goal.invariant-block-loop-stmt
invariant-block-loop-stmt l =
    before (λ s. Then s.line (statement s.what)) l.statements.items (resolved_block l.names (syntax.block_of (drop l.stmt-index l.stmts))) ≡ resolved_block l.names (syntax.block_of l.stmts)

abbrev pub invariant-arms_of-loop-arm : goal.invariant-arms_of-loop-arm
invariant-arms_of-loop-arm l =
    before with_arm l.planned.items (resolved_arms l.names (syntax.arms_of (drop l.arm-index l.arms))) ≡ resolved_arms l.names (syntax.arms_of l.arms)
