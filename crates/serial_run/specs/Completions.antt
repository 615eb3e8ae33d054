-- Of private clauses.
-- The run of the definitions that a statement's completion in code belongs to.
use Rattle.std.specs.Prelude.{◌≡◌, ℕ, Result, Ok, Err}
use Rattle.array_meaning.specs.Faults.{Cause}
use Rattle.array_meaning.specs.Runs.{Completion, Normal, Exited, Cycled, Stopped, Faulted, Run}
use Rattle.array_meaning.specs.State.{State}
use Rattle.serial_run.specs.declared.completion.Completion.{Completion as HeldCompletion}
use Rattle.serial_run.specs.declared.completion.Completion.TheVariants as held
use Rattle.term_values.specs.declared.stops.Stop.{Stop}
use Rattle.term_values.specs.declared.stops.Stop.TheVariants as stop
use Rattle.term_values.specs.Faults.{fault}
use Rattle.term_values.specs.Stops.{IsStop}

abbrev pub completion : HeldCompletion → Completion
completion held.Normal = Normal
completion held.Exited = Exited
completion held.Cycled = Cycled
completion held.Stopped = Stopped
completion (held.Faulted f) = Faulted (fault f)

-- a run leaves this state and completes so
abbrev pub IsRun : Run → State → HeldCompletion → Type 0
IsRun r new c = r ≡ record { state = new; completion = completion c }

-- an evaluation that stopped changed nothing
abbrev pub IsStopped : Result State Cause → State → State → Stop → Type 0
IsStopped r old new e = IsStop r e × Unchanged e where
  Unchanged : Stop → Type 0
  Unchanged (stop.Fault c) = new ≡ old
  Unchanged stop.Memory = Unit {0}

-- how a statement completes after a stop, and after a step; want of memory has no completion
abbrev pub IsFaulted : ℕ → Stop → HeldCompletion → Type 0
IsFaulted line (stop.Fault c) r = r ≡ held.Faulted record { line = line; cause = c }
IsFaulted line stop.Memory r = ⊥

abbrev pub IsEnd : ℕ → Result Unit Stop → HeldCompletion → Type 0
IsEnd line (Ok u) r = r ≡ held.Normal
IsEnd line (Err e) r = IsFaulted line e r
