use Rattle.std.proofs.Common.{◌≡◌, ◌∙◌, sym, ap, subst, refl, Ok, IfOk, ◌∷◌, drop, suc, ◌+◌, arith, rules, if◌then◌else◌}
use Rattle.std.proofs.Math.Seq.{drop-cons}
use Rattle.std.proofs.lemmas.List.{drop_all}
use Rattle.array_meaning.specs.Runs.{Normal, Run, with_value}
use Rattle.array_meaning.specs.State.{State, set_scalar}
use Rattle.array_meaning.specs.Execution.{iterate, run, run_arms, run_block}
use Rattle.resolved_program.specs.declared.statements.Arm.{out-Arm}
use Rattle.resolved_program.specs.Resolved.{arms_of, block_of, statement}
use Rattle.term_values.specs.States.{state_of}
use Rattle.serial_run.specs.Arms.{IsArms}
use Rattle.serial_run.specs.Completions.{IsRun, completion}
use Rattle.serial_run.proofs.Statements.{if_is, arm_is, do_is, fault_is, turn_next, goes_on}
use Rattle.serial_run.proofs.execution.+run.Goals as goal
use Rattle.serial_run.proofs.execution.+run.Goals.{iterate-then-done-len+in_ok-completion+in-Normal, iterate-else-done-len}

pub run-returns-in-Some : goal.run-returns-in-Some
run-returns-in-Some t c =
    if_is c.args.stmt.now.what c.in-If.arms c.in-If.other c.args.stmt.now.line (state_of c.args.s.now) c.in-If.is
    ∙ subst (IsArms (arms_of c.in-If.arms.items) (state_of c.args.s.now) (state_of c.run_arms.new.s)) c.in-Some.is c.in_ok-completion-in-If.ensures (run_block (block_of c.in-If.other.items))

pub run-returns-in-None : goal.run-returns-in-None
run-returns-in-None t c =
    subst (λ r. IfOk c.run_block.result (IsRun r (state_of c.run_block.new.s)))
    (sym (if_is c.args.stmt.now.what c.in-If.arms c.in-If.other c.args.stmt.now.line (state_of c.args.s.now) c.in-If.is
    ∙ subst (IsArms (arms_of c.in-If.arms.items) (state_of c.args.s.now) (state_of c.run_arms.new.s)) c.in-None.is c.in_ok-completion-in-If.ensures (run_block (block_of c.in-If.other.items))))
    c.run_block.ensures

pub run-returns-in-Ok : goal.run-returns-in-Ok
run-returns-in-Ok t c =
    subst (λ r. IfOk c.iterate.result (IsRun r (state_of c.iterate.new.s)))
    (sym (do_is c.args.stmt.now.what c.in-Do.nest c.in-Do.l c.in-Do.body c.args.stmt.now.line (state_of c.args.s.now) c.in-Do.is
    ∙ ap (λ r. with_value c.args.stmt.now.line (state_of c.args.s.now) r (λ p. iterate p.count c.in-Do.l.index p.first p.step (run_block (block_of c.in-Do.body.items)) (state_of c.args.s.now))) c.in-Ok.ensures.value
    ∙ ap (iterate c.in-Ok.p.count c.in-Do.l.index c.in-Ok.p.first c.in-Ok.p.step (run_block (block_of c.in-Do.body.items))) (sym c.loop_values.ensures.unchanged)))
    c.iterate.ensures

pub run-returns-in-Err : goal.run-returns-in-Err
run-returns-in-Err t c =
    fault_is (run (statement c.args.stmt.now.what) c.args.stmt.now.line (state_of c.args.s.now)) c.args.stmt.now.line (state_of c.args.s.now) (state_of c.loop_values.new.s) _
    (λ p. iterate p.count c.in-Do.l.index p.first p.step (run_block (block_of c.in-Do.body.items)) (state_of c.args.s.now)) c.in-Err.stop c.faulted.result
    (do_is c.args.stmt.now.what c.in-Do.nest c.in-Do.l c.in-Do.body c.args.stmt.now.line (state_of c.args.s.now) c.in-Do.is)
    c.loop_values.ensures.unchanged c.in-Err.ensures.stopped c.faulted.ensures

pub run_arms-returns-in-Ok-true : goal.run_arms-returns-in-Ok-true
run_arms-returns-in-Ok-true t c = λ other.
    c.loop-arm.invariant other
    ∙ ap (λ xs. run_arms (arms_of xs) other (state_of c.loop-arm.s)) (drop-cons c.deref-arm-items.result.now c.loop-arm.arm-index c.arm-item.result c.loop-arm-test.true)
    ∙ ap (λ x. run_arms (arms_of (x ∷ drop (suc c.loop-arm.arm-index) c.deref-arm-items.result.now)) other (state_of c.loop-arm.s)) (sym c.arm-item.is)
    ∙ arm_is c.arm-item.result (drop (suc c.loop-arm.arm-index) c.deref-arm-items.result.now) (state_of c.loop-arm.s) other
    ∙ ap (λ r. with_value (out-Arm c.arm-item.result).line (state_of c.loop-arm.s) r (λ is_met. (if is_met then run_block (block_of (out-Arm c.arm-item.result).body.items) else run_arms (arms_of (drop (suc c.loop-arm.arm-index) c.deref-arm-items.result.now)) other) (state_of c.loop-arm.s))) (c.in-Ok-true.ensures.value ∙ ap Ok c.in-Ok-true.field-0-test)
    ∙ c.in_ok-completion-in-Ok-true.ensures

pub run_arms-loop-arm-preserved : goal.run_arms-loop-arm-preserved
run_arms-loop-arm-preserved t c = λ other.
    c.loop-arm.invariant other
    ∙ ap (λ xs. run_arms (arms_of xs) other (state_of c.loop-arm.s)) (drop-cons c.deref-arm-items.result.now c.loop-arm.arm-index c.arm-item.result c.loop-arm-test.true)
    ∙ ap (λ x. run_arms (arms_of (x ∷ drop (suc c.loop-arm.arm-index) c.deref-arm-items.result.now)) other (state_of c.loop-arm.s)) (sym c.arm-item.is)
    ∙ arm_is c.arm-item.result (drop (suc c.loop-arm.arm-index) c.deref-arm-items.result.now) (state_of c.loop-arm.s) other
    ∙ ap (λ r. with_value (out-Arm c.arm-item.result).line (state_of c.loop-arm.s) r (λ is_met. (if is_met then run_block (block_of (out-Arm c.arm-item.result).body.items) else run_arms (arms_of (drop (suc c.loop-arm.arm-index) c.deref-arm-items.result.now)) other) (state_of c.loop-arm.s))) (c.in-Ok-false.ensures.value ∙ ap Ok c.in-Ok-false.field-0-test)
    ∙ ap (λ n. run_arms (arms_of (drop n c.deref-arm-items.result.now)) other (state_of c.loop-arm.s)) (let e : suc c.loop-arm.arm-index ≡ c.loop-arm.arm-index + 1 = omega arith in e)

pub iterate-loop-preserved : goal.iterate-loop-preserved
iterate-loop-preserved t c =
    let body : State → Run = run_block (block_of c.args.body.now.items) in
    let begun : body (set_scalar (state_of c.loop.s) c.args.index c.loop.at.value)
    ≡ run_block (block_of (drop c.known_steps-done.result c.args.body.now.items)) (state_of c.known_steps-done.new.s) =
    ap body (sym c.set_index.ensures)
    ∙ ap (λ xs. run_block (block_of xs) (state_of c.set_index.new.s)) (sym c.deref.ensures.value)
    ∙ c.known_steps-done.ensures.rest
    ∙ ap (λ xs. run_block (block_of (drop c.known_steps-done.result xs)) (state_of c.known_steps-done.new.s)) c.deref.ensures.value in
    elim c.if-done-len.branch [
      | iterate-then-done-len+in_ok-completion+in-Normal w ↦
          turn_next _ c.args.p.count c.loop.counter c.args.index c.loop.at.value c.next-at.result.value c.args.p.step body (state_of c.loop.s) (state_of w.run_rest.new.s)
          (state_of c.if-done-len.s) (completion w.in_ok-completion.completion) c.loop.invariant c.loop-test.true c.next-at.ensures (begun ∙ w.in_ok-completion.ensures)
          (goes_on w.in_ok-completion.completion w.in-Normal.is (state_of w.run_rest.new.s)) (ap state_of w.s-is)
      | iterate-else-done-len w ↦
          turn_next _ c.args.p.count c.loop.counter c.args.index c.loop.at.value c.next-at.result.value c.args.p.step body (state_of c.loop.s) (state_of c.known_steps-done.new.s)
          (state_of c.if-done-len.s) Normal c.loop.invariant c.loop-test.true c.next-at.ensures
          (begun ∙ ap (λ xs. run_block (block_of xs) (state_of c.known_steps-done.new.s)) (drop_all c.known_steps-done.result c.args.body.now.items (search rules)))
          (λ next. refl) (ap state_of w.s-is)
    ]
