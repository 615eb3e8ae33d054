use Rattle.std.proofs.Common.{◌≡◌, true, false, ap, sym, subst, ◌∙◌, IfOk}
use Rattle.std.specs.Prelude.{◌&&◌}
use Rattle.resolved_program.specs.Resolved.{arms_of, block_of, statement}
use Rattle.resolved_program.proofs.Rows.{do_vec}
use Rattle.array_meaning.specs.NestLimits.{are_arms_in_limits, is_block_in_limits, is_in_limits}
use Rattle.term_values.specs.States.{state_of}
use Rattle.interference.specs.Limits.{is_arm_in_limits}
use Rattle.interference.proofs.Arms.{arm_next, if_limits}
use Rattle.interference.proofs.limits.+limits.Goals as goal

pub is_in_limits-returns-then-not-branch-clause-limits : goal.is_in_limits-returns-then-not-branch-clause-limits
is_in_limits-returns-then-not-branch-clause-limits t c =
    sym (if_limits c.args.indices.now (state_of c.args.s.now) c.args.n c.args.stmt.now.what c.in-If.arms c.in-If.other c.in-If.is
    ∙ ap (λ b. b && is_block_in_limits c.args.indices.now (state_of c.args.s.now) c.args.n (block_of c.in-If.other.items)) (sym c.in_ok-are_arms_in_limits-in-If.ensures.limits ∙ c.if-not-branch.true))

pub is_in_limits-returns-else-not-branch-clause-limits : goal.is_in_limits-returns-else-not-branch-clause-limits
is_in_limits-returns-else-not-branch-clause-limits t c =
    subst (λ r. IfOk c.is_block_in_limits.result (λ b. b ≡ r))
    (sym (if_limits c.args.indices.now (state_of c.args.s.now) c.args.n c.args.stmt.now.what c.in-If.arms c.in-If.other c.in-If.is
    ∙ ap (λ b. b && is_block_in_limits c.args.indices.now (state_of c.args.s.now) c.args.n (block_of c.in-If.other.items)) (sym c.in_ok-are_arms_in_limits-in-If.ensures.limits ∙ c.if-not-branch.false)
    ∙ ap (λ s. is_block_in_limits c.args.indices.now s c.args.n (block_of c.in-If.other.items)) (sym c.are_arms_in_limits.ensures.unchanged)))
    c.is_block_in_limits.ensures.limits

pub is_in_limits-returns-in-Do-clause-limits : goal.is_in_limits-returns-in-Do-clause-limits
is_in_limits-returns-in-Do-clause-limits t c =
    subst (λ r. IfOk c.is_loop_in_limits.result (λ b. b ≡ r))
    (sym (ap (λ a. is_in_limits c.args.indices.now (state_of c.args.s.now) c.args.n (statement a)) c.in-Do.is
    ∙ ap (is_in_limits c.args.indices.now (state_of c.args.s.now) c.args.n) (do_vec c.in-Do.field-0 c.in-Do.l c.in-Do.body)))
    c.is_loop_in_limits.ensures.limits

pub are_arms_in_limits-returns-then-not-branch-clause-limits : goal.are_arms_in_limits-returns-then-not-branch-clause-limits
are_arms_in_limits-returns-then-not-branch-clause-limits t c =
    sym (ap (λ xs. are_arms_in_limits c.args.indices.now (state_of c.args.s.now) c.args.n (arms_of xs)) (sym c.deref-arm-items.ensures.value)
    ∙ c.loop-arm.invariant.0
    ∙ arm_next c.args.indices.now (state_of c.args.s.now) c.args.n c.deref-arm-items.result.now c.loop-arm.arm-index c.arm-item.result false c.loop-arm-test.true c.arm-item.is
    (ap (λ s. is_arm_in_limits c.args.indices.now s c.args.n c.arm-item.result) (sym c.loop-arm.invariant.1) ∙ sym c.in_ok-is_arm_in_limits.ensures.limits ∙ c.if-not-branch.true))

pub are_arms_in_limits-loop-arm-preserved : goal.are_arms_in_limits-loop-arm-preserved
are_arms_in_limits-loop-arm-preserved t c = (
  c.loop-arm.invariant.0
      ∙ arm_next c.args.indices.now (state_of c.args.s.now) c.args.n c.deref-arm-items.result.now c.loop-arm.arm-index c.arm-item.result true c.loop-arm-test.true c.arm-item.is
      (ap (λ s. is_arm_in_limits c.args.indices.now s c.args.n c.arm-item.result) (sym c.loop-arm.invariant.1) ∙ sym c.in_ok-is_arm_in_limits.ensures.limits ∙ c.if-not-branch.false),
  c.is_arm_in_limits.ensures.unchanged ∙ c.loop-arm.invariant.1,
)
