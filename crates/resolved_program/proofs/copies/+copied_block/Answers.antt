use Rattle.std.proofs.Common.{◌+◌, drop, arith, sym, ap, ◌∙◌}
use Rattle.array_meaning.proofs.Lists.{drop_item}
use Rattle.array_meaning.specs.Statements.{Arm, Do, If, Then}
use Rattle.resolved_program.specs.declared.statements.Arm.{out-Arm}
use Rattle.resolved_program.specs.Resolved.{arms_of, block_of, do_loop, loop_of, statement, with_arm}
use Rattle.resolved_program.proofs.Made.{arms_made, block_made, made_all, made_next}
use Rattle.resolved_program.proofs.Rows.{arm_made, arm_parts, do_vec, if_vec}
use Rattle.resolved_program.proofs.copies.+copied_block.Goals as goal

pub copied_block-loop-s-preserved : goal.copied_block-loop-s-preserved
copied_block-loop-s-preserved t c =
    let n = c.loop-s.s-index in
    made_next (λ s. Then s.line (statement s.what)) block_of c.args.statements.now n c.s-item.result c.loop-s.made.items c.push.new.self.items _ (block_of c.args.statements.now)
    (drop_item c.args.statements.now n c.s-item.result c.loop-s-test.true c.s-item.is) c.in_ok-push.ensures.items
    (ap (λ s. Then c.s-item.result.line s (block_of (drop (n + 1) c.args.statements.now))) c.in_ok-what.ensures) c.loop-s.invariant

pub copied_block-returns : goal.copied_block-returns
copied_block-returns t c =
    sym (block_made c.loop-s.made.items)
    ∙ made_all (λ s. Then s.line (statement s.what)) block_of c.args.statements.now c.loop-s.s-index c.loop-s.made.items _ (omega arith) c.loop-s.invariant

pub copied_action-returns-in_ok-copied_block-in-If : goal.copied_action-returns-in_ok-copied_block-in-If
copied_action-returns-in_ok-copied_block-in-If t c =
    if_vec c.in_ok-copied_arms-in-If.field-0 c.in_ok-copied_block-in-If.field-0
    ∙ (λ i. If ((c.in_ok-copied_arms-in-If.ensures ∙ ap arms_of c.deref-in-If.ensures.value) i) ((c.in_ok-copied_block-in-If.ensures ∙ ap block_of c.deref-in-If-2.ensures.value) i))
    ∙ sym (ap statement c.in-If.is ∙ if_vec c.in-If.arms c.in-If.other)

pub copied_action-returns-in_ok-copied_block-in-Do : goal.copied_action-returns-in_ok-copied_block-in-Do
copied_action-returns-in_ok-copied_block-in-Do t c =
    let nest = c.in_ok-nest_if_any-in-Do.field-0 in
    do_vec nest c.in_ok-copied_loop-in-Do.field-0 c.in_ok-copied_block-in-Do.field-0
    ∙ (λ i. do_loop nest (c.in_ok-copied_loop-in-Do.ensures i) ((c.in_ok-copied_block-in-Do.ensures ∙ ap block_of c.deref-in-Do.ensures.value) i))
    ∙ ap (λ m. Do m (loop_of c.in-Do.l) (block_of c.in-Do.body.items)) (c.in_ok-nest_if_any-in-Do.ensures (loop_of c.in-Do.l) (block_of c.in-Do.body.items))
    ∙ sym (ap statement c.in-Do.is ∙ do_vec c.in-Do.nest c.in-Do.l c.in-Do.body)

pub copied_arms-loop-a-preserved : goal.copied_arms-loop-a-preserved
copied_arms-loop-a-preserved t c =
    let n = c.loop-a.a-index in
    made_next with_arm arms_of c.args.arms.now n c.a-item.result c.loop-a.made.items c.push.new.self.items c.in_ok-one.one (arms_of c.args.arms.now)
    (drop_item c.args.arms.now n c.a-item.result c.loop-a-test.true c.a-item.is) c.in_ok-push.ensures.items
    (c.in_ok-one.ensures (arms_of (drop (n + 1) c.args.arms.now))) c.loop-a.invariant

pub copied_arms-returns : goal.copied_arms-returns
copied_arms-returns t c =
    sym (arms_made c.loop-a.made.items) ∙ made_all with_arm arms_of c.args.arms.now c.loop-a.a-index c.loop-a.made.items _ (omega arith) c.loop-a.invariant

pub copied_arm-returns : goal.copied_arm-returns
copied_arm-returns t c = λ rest.
    let line = (out-Arm c.args.a.now).line in
    arm_made line c.in_ok-condition.condition c.in_ok-body.body rest
    ∙ (λ i. Arm line (c.in_ok-condition.ensures i) ((c.in_ok-body.ensures ∙ ap block_of c.deref.ensures.value) i) rest)
    ∙ sym (arm_parts c.args.a.now rest)
