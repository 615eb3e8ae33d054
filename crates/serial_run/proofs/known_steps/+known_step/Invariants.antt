use Rattle.std.proofs.Common.{◌≡◌, drop}
use Rattle.array_meaning.specs.State.{State}
use Rattle.array_meaning.specs.Runs.{Run}
use Rattle.array_meaning.specs.Execution.{run_arms}
use Rattle.resolved_program.specs.Resolved.{arms_of}
use Rattle.term_values.specs.States.{state_of}
use Rattle.serial_run.proofs.known_steps.+known_step.Given as goal

-- no arm so far was taken, and nothing has changed
abbrev pub invariant-known_arms-loop-arm : goal.invariant-known_arms-loop-arm
invariant-known_arms-loop-arm l =
    (state_of l.s ≡ state_of l.fn.s)
    × ((other : State → Run) → run_arms (arms_of l.fn.arms.items) other (state_of l.fn.s) ≡ run_arms (arms_of (drop l.arm-index l.arm-items)) other (state_of l.fn.s))
