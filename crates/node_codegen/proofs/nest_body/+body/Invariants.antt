use Rattle.std.proofs.Common.{◌≡◌, [], ◌++◌, drop}
use Rattle.program_code.specs.NestCode.{PlainArms, plain, plain_arms}
use Rattle.node_code.specs.Texts.{instructions}
use Rattle.resolved_program.specs.Resolved.{arms_of, block_of}
use Rattle.node_codegen.specs.NestNames.{arms_by, body_by}
use Rattle.node_codegen.proofs.nest_body.+body.Given as goal

-- the code so far, before that of the statements that are left, is all
abbrev pub invariant-body_code-loop-s : goal.invariant-body_code-loop-s
invariant-body_code-loop-s l =
    body_by l.w (plain (block_of l.statements)) l.guard l.k l.b l.pc ≡ instructions l.code.items ++ body_by l.w (plain (block_of (drop l.s-index l.statements))) l.guard l.next l.b l.at

-- and so it is of arms
abbrev pub invariant-arms_code-loop-a : goal.invariant-arms_code-loop-a
invariant-arms_code-loop-a l = (other : PlainArms) →
    arms_by l.w (plain_arms (arms_of l.arms) other) l.guard [] l.k l.b l.pc
    ≡ instructions l.code.items ++ arms_by l.w (plain_arms (arms_of (drop l.a-index l.arms)) other) l.guard l.earlier.items l.next l.b l.after
