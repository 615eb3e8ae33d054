-- Of private clauses.
-- What the arms of an IF come to.
use Rattle.std.specs.Prelude.{◌≡◌, Option, Some, None}
use Rattle.array_meaning.specs.Statements.{Arms}
use Rattle.array_meaning.specs.State.{State}
use Rattle.array_meaning.specs.Runs.{Run, normal}
use Rattle.array_meaning.specs.Execution.{run_arms}
use Rattle.serial_run.specs.declared.completion.Completion.{Completion as HeldCompletion}
use Rattle.serial_run.specs.declared.known_steps.ArmsDone.{ArmsDone}
use Rattle.serial_run.specs.declared.known_steps.ArmsDone.TheVariants as done
use Rattle.serial_run.specs.Completions.{IsRun}

-- a run of one of them, whatever stands after them; or none whose condition is true
abbrev pub IsArms : Arms → State → State → Option HeldCompletion → Type 0
IsArms arms old new (Some c) = (other : State → Run) → IsRun (run_arms arms other old) new c
IsArms arms old new None = (other : State → Run) → run_arms arms other old ≡ other new

-- one of them is done, and ends normally; or none whose condition is true; or nothing is known, and nothing has changed
abbrev pub AreDone : Arms → State → State → ArmsDone → Type 0
AreDone arms old new done.Done = (other : State → Run) → run_arms arms other old ≡ normal new
AreDone arms old new done.NoneTrue = (new ≡ old) × ((other : State → Run) → run_arms arms other old ≡ other old)
AreDone arms old new done.Unknown = new ≡ old
