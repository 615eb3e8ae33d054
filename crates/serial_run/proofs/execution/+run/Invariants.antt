use Rattle.std.proofs.Common.{◌≡◌, ◌-◌, drop}
use Rattle.array_meaning.specs.State.{State}
use Rattle.array_meaning.specs.Runs.{Run}
use Rattle.array_meaning.specs.Execution.{iterate, run_arms, run_block}
use Rattle.resolved_program.specs.Resolved.{arms_of, block_of}
use Rattle.term_values.specs.States.{state_of}
use Rattle.serial_run.proofs.execution.+run.Given as goal

-- what is left to run from here is the whole
abbrev pub invariant-run_rest-loop-i : goal.invariant-run_rest-loop-i
invariant-run_rest-loop-i l =
    run_block (block_of (drop l.fn.first l.fn.statements.items)) (state_of l.fn.s) ≡ run_block (block_of (drop l.i l.statements.items)) (state_of l.s)

-- no arm so far was taken
abbrev pub invariant-run_arms-loop-arm : goal.invariant-run_arms-loop-arm
invariant-run_arms-loop-arm l =
    (other : State → Run) → run_arms (arms_of l.fn.arms.items) other (state_of l.fn.s) ≡ run_arms (arms_of (drop l.arm-index l.arm-items)) other (state_of l.s)

-- the iterations that are left from here are all
abbrev pub invariant-iterate-loop : goal.invariant-iterate-loop
invariant-iterate-loop l =
    iterate l.p.count l.index l.p.first l.p.step (run_block (block_of l.body.items)) (state_of l.fn.s)
    ≡ iterate (l.p.count - l.counter) l.index l.at.value l.p.step (run_block (block_of l.body.items)) (state_of l.s)
