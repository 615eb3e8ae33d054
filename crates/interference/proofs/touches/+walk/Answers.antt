use Rattle.std.proofs.Common.{◌≡◌, ◌∙◌, sym, ap, subst, OnOk, Some, length, rules}
use Rattle.array_meaning.specs.Touches.{known_truth}
use Rattle.resolved_program.specs.Resolved.{block_of, loop_of, term}
use Rattle.resolved_program.specs.declared.statements.Arm.{out-Arm}
use Rattle.term_values.specs.States.{state_of}
use Rattle.interference.specs.Walks.{walk_of}
use Rattle.interference.proofs.Walked.{arm_false, arm_true, arm_unknown, do_walked, else_walked, empty_walked, loop_walked, no_else_walked, set_back_after, still_same, turn_next, value_next}
use Rattle.interference.proofs.touches.+walk.Goals as goal

-- ---- IF

pub note_arm-returns-in-Some-false-clause-noted : goal.note_arm-returns-in-Some-false-clause-noted
note_arm-returns-in-Some-false-clause-noted t c =
    arm_false (walk_of c.args.w.now) (walk_of c.note_reads.new.w) (state_of c.args.s.now) c.args.arm.now c.in_ok-note_reads.ensures
    (ap Some (sym c.in-Some-false.field-0-test) ∙ sym c.in-Some-false.is ∙ c.in_ok-known_truth.ensures ∙ ap (λ ks. known_truth ks (state_of c.args.s.now) (term (out-Arm c.args.arm.now).condition)) c.deref.ensures.value)

pub note_arm-returns-in_ok-note_block-in-Some-true-clause-noted : goal.note_arm-returns-in_ok-note_block-in-Some-true-clause-noted
note_arm-returns-in_ok-note_block-in-Some-true-clause-noted t c =
    arm_true (walk_of c.args.w.now) (walk_of c.note_reads.new.w) (state_of c.args.s.now) c.args.arm.now c.in_ok-note_reads.ensures (walk_of c.note_block.new.w)
    (ap Some (sym c.in-Some-true.field-0-test) ∙ sym c.in-Some-true.is ∙ c.in_ok-known_truth.ensures ∙ ap (λ ks. known_truth ks (state_of c.args.s.now) (term (out-Arm c.args.arm.now).condition)) c.deref.ensures.value)
    c.in_ok-note_block-in-Some-true.ensures.noted

pub note_arm-returns-in_ok-note_block-in-None-clause-noted : goal.note_arm-returns-in_ok-note_block-in-None-clause-noted
note_arm-returns-in_ok-note_block-in-None-clause-noted t c =
    arm_unknown (walk_of c.args.w.now) (walk_of c.note_reads.new.w) (state_of c.args.s.now) c.args.arm.now c.in_ok-note_reads.ensures (walk_of c.note_block-in-None.new.w)
    (sym c.in-None.is ∙ c.in_ok-known_truth.ensures ∙ ap (λ ks. known_truth ks (state_of c.args.s.now) (term (out-Arm c.args.arm.now).condition)) c.deref.ensures.value)
    c.in_ok-note_block-in-None.ensures.noted

pub note_statement-returns-then-branch-clause-noted : goal.note_statement-returns-then-branch-clause-noted
note_statement-returns-then-branch-clause-noted t c =
    subst (λ v. OnOk c.note_block.result (walk_of c.note_block.new.w ≡ v))
    (else_walked (walk_of c.args.w.now) (walk_of c.note_arms.new.w) (state_of c.args.s.now) (state_of c.note_arms.new.s) c.args.stmt.now.what c.in-If.arms c.in-If.other c.in-If.is
    c.in_ok-note_arms-in-If.field-0 c.in_ok-note_arms-in-If.ensures.noted c.if-branch.true c.in_ok-note_arms-in-If.ensures.unchanged)
    c.note_block.ensures.noted

pub note_statement-returns-else-branch-clause-noted : goal.note_statement-returns-else-branch-clause-noted
note_statement-returns-else-branch-clause-noted t c =
    no_else_walked (walk_of c.args.w.now) (walk_of c.note_arms.new.w) (state_of c.args.s.now) (state_of c.note_arms.new.s) c.args.stmt.now.what c.in-If.arms c.in-If.other c.in-If.is
    c.in_ok-note_arms-in-If.field-0 c.in_ok-note_arms-in-If.ensures.noted c.if-branch.false

-- ---- DO

pub note_statement-returns-in-Do-clause-noted : goal.note_statement-returns-in-Do-clause-noted
note_statement-returns-in-Do-clause-noted t c =
    subst (λ v. OnOk c.note_loop.result (walk_of c.note_loop.new.w ≡ v))
    (do_walked (walk_of c.args.w.now) (state_of c.args.s.now) c.args.stmt.now.what c.in-Do.field-0 c.in-Do.l c.in-Do.body c.in-Do.is)
    c.note_loop.ensures.noted

pub note_loop-returns-then-len-eq0-clause-noted : goal.note_loop-returns-then-len-eq0-clause-noted
note_loop-returns-then-len-eq0-clause-noted t c =
    let none : length c.args.body.now.items ≡ 0 = search rules in
    empty_walked (walk_of c.args.w.now) (state_of c.args.s.now) (loop_of c.args.l.now) c.args.body.now.items none

pub note_loop-returns-clause-noted : goal.note_loop-returns-clause-noted
note_loop-returns-clause-noted t c =
    loop_walked (walk_of c.args.w.now) (walk_of c.go_inside.new.self) (walk_of c.note_turns-done.new.w) (walk_of c.go_outside.new.self) (state_of c.args.s.now) (loop_of c.args.l.now) c.in_ok-p.p (block_of c.args.body.now.items)
    c.in_ok-go_inside.ensures c.in_ok-p.ensures c.in_ok-done.ensures.noted c.go_outside.ensures

pub note_loop-returns-in_err-done-clause-unchanged : goal.note_loop-returns-in_err-done-clause-unchanged
note_loop-returns-in_err-done-clause-unchanged t c =
    set_back_after (state_of c.args.s.now) (state_of c.note_turns-done.new.s) (state_of c.set_index.new.s) c.args.l.now.index c.index_value-before.result.value c.note_turns-done.ensures.unchanged c.index_value-before.ensures c.set_index.ensures

pub note_loop-returns-clause-unchanged : goal.note_loop-returns-clause-unchanged
note_loop-returns-clause-unchanged t c =
    set_back_after (state_of c.args.s.now) (state_of c.note_turns-done.new.s) (state_of c.set_index.new.s) c.args.l.now.index c.index_value-before.result.value c.note_turns-done.ensures.unchanged c.index_value-before.ensures c.set_index.ensures

pub note_turns-returns-in_err-note_block-clause-unchanged : goal.note_turns-returns-in_err-note_block-clause-unchanged
note_turns-returns-in_err-note_block-clause-unchanged t c =
    still_same (state_of c.args.s.now) (state_of c.loop.s) (state_of c.set_index.new.s) (state_of c.note_block.new.s) c.args.index c.loop.at.value c.loop.invariant.1 c.set_index.ensures c.note_block.ensures.unchanged

pub note_turns-loop-preserved : goal.note_turns-loop-preserved
note_turns-loop-preserved t c = (
  turn_next (walk_of c.args.w.now) (walk_of c.loop.w) (walk_of c.note_block.new.w) (state_of c.args.s.now) (state_of c.loop.s) (state_of c.set_index.new.s) c.args.index c.args.p (block_of c.args.body.now.items) c.loop.counter
      c.loop.at.value c.loop.invariant.2 c.loop.invariant.1 c.set_index.ensures c.in_ok-note_block.ensures.noted c.loop.invariant.0,
  still_same (state_of c.args.s.now) (state_of c.loop.s) (state_of c.set_index.new.s) (state_of c.note_block.new.s) c.args.index c.loop.at.value c.loop.invariant.1 c.set_index.ensures c.note_block.ensures.unchanged,
  value_next c.args.p c.loop.counter c.loop.at.value c.sum-at.result.value c.loop.invariant.2 c.sum-at.ensures,
)
