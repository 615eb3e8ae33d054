use Rattle.std.proofs.Common.{rules, ◌≡◌, ◌∙◌, ap, sym, subst, true, false, Ok}
use Rattle.array_meaning.specs.Execution.{condition, run_block}
use Rattle.resolved_program.specs.declared.statements.Arm.{out-Arm}
use Rattle.resolved_program.specs.Resolved.{block_of, term}
use Rattle.term_values.specs.States.{state_of}
use Rattle.serial_run.proofs.Statements.{arm_passed, arm_taken, if_is}
use Rattle.serial_run.proofs.known_steps.+known_step.Goals as goal

pub known_arms-returns-then-known_block : goal.known_arms-returns-then-known_block
known_arms-returns-then-known_block t c = λ other.
    let known : c.known_condition-c.result.known ≡ true = search rules in
    c.loop-arm.invariant.1 other
    ∙ arm_taken c.deref-arm-items.result.now c.loop-arm.arm-index c.arm-item.result (state_of c.args.s.now) other c.loop-arm-test.true c.arm-item.is
    (subst (λ s. condition s (term (out-Arm c.arm-item.result).condition) ≡ Ok true) c.loop-arm.invariant.0 (c.known_condition-c.ensures known ∙ ap Ok c.if-c.true))
    ∙ ap (run_block (block_of (out-Arm c.arm-item.result).body.items)) (sym c.loop-arm.invariant.0)
    ∙ c.known_block.ensures.done c.if-known_block.true

pub known_arms-loop-arm-preserved : goal.known_arms-loop-arm-preserved
known_arms-loop-arm-preserved t c =
    let known : c.known_condition-c.result.known ≡ true = search rules in (
      c.loop-arm.invariant.0,
      λ other.
          c.loop-arm.invariant.1 other
          ∙ arm_passed c.deref-arm-items.result.now c.loop-arm.arm-index c.arm-item.result (state_of c.args.s.now) other c.loop-arm-test.true c.arm-item.is
          (subst (λ s. condition s (term (out-Arm c.arm-item.result).condition) ≡ Ok false) c.loop-arm.invariant.0 (c.known_condition-c.ensures known ∙ ap Ok c.if-c.false)),
    )

pub known_if-returns-in-Done-clause-done : goal.known_if-returns-in-Done-clause-done
known_if-returns-in-Done-clause-done t c = λ done.
    if_is c.args.stmt.now.what c.in-If.arms c.in-If.other c.args.stmt.now.line (state_of c.args.s.now) c.in-If.is ∙ c.in-Done.ensures (run_block (block_of c.in-If.other.items))

pub known_if-returns-in-NoneTrue-clause-done : goal.known_if-returns-in-NoneTrue-clause-done
known_if-returns-in-NoneTrue-clause-done t c = λ done.
    if_is c.args.stmt.now.what c.in-If.arms c.in-If.other c.args.stmt.now.line (state_of c.args.s.now) c.in-If.is
    ∙ c.in-NoneTrue.ensures.1 (run_block (block_of c.in-If.other.items))
    ∙ ap (run_block (block_of c.in-If.other.items)) (sym c.in-NoneTrue.ensures.0)
    ∙ c.known_block.ensures.done done
