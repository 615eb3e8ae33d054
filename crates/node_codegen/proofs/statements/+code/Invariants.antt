use Rattle.std.proofs.Common.{◌≡◌, ◌++◌, ℕ, List, drop}
use Rattle.node_code.specs.Instructions.{Instruction}
use Rattle.node_code.specs.Texts.{instructions}
use Rattle.resolved_program.specs.Resolved.{arms_of, block_of}
use Rattle.program_code.specs.StatementCode.{arms_code, block_code}
use Rattle.node_codegen.specs.Arms.{arms_before, codes}
use Rattle.node_codegen.specs.Moves.{moves_by}
use Rattle.node_codegen.proofs.statements.+code.Given as goal

-- the code so far, before that of the statements that are left, is all
abbrev pub invariant-block_code-loop-s : goal.invariant-block_code-loop-s
invariant-block_code-loop-s l =
    instructions l.code.items ++ block_code l.copy (moves_by l.moves) (block_of (drop l.s-index l.statements)) l.b l.at l.leave l.again ≡ block_code l.copy (moves_by l.moves) (block_of l.statements) l.b l.pc l.leave l.again

-- the codes so far, before the arms that are left, are all
abbrev pub invariant-arm_codes-loop-arm : goal.invariant-arm_codes-loop-arm
invariant-arm_codes-loop-arm l = (other : ℕ → List Instruction) →
    arms_code l.copy (moves_by l.moves) (arms_of l.arms) other l.b l.pc l.leave l.again
    ≡ arms_before l.after (codes l.codes.items) (λ pc. arms_code l.copy (moves_by l.moves) (arms_of (drop l.arm-index l.arms)) other l.b pc l.leave l.again)
