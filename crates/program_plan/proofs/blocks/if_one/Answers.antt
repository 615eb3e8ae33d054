use Rattle.std.proofs.Common.{ap, ◌∙◌}
use Rattle.array_meaning.specs.Statements.{Arm, Done, If, NoArm}
use Rattle.resolved_program.specs.Resolved.{arms_of, block_of}
use Rattle.resolved_program.proofs.Rows.{arm_made, if_vec}
use Rattle.program_plan.proofs.blocks.if_one.Goals as goal

pub returns : goal.returns
returns c =
    if_vec c.in_ok-arms.arms c.new.result
    ∙ (λ i. If (arms_of (c.in_ok-arms.ensures.items i)) (block_of (c.new.ensures.items i)))
    ∙ ap (λ as'. If as' Done) (arm_made c.args.line c.in_ok-condition.condition c.in_ok-body.body NoArm)
    ∙ (λ i. If (Arm c.args.line (c.in_ok-condition.ensures i) (c.in_ok-body.ensures i) NoArm) Done)
