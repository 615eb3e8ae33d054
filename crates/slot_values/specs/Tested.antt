-- Of private clauses.
-- How a run stands after a test, which changes nothing but that the run goes on or stops.
use Rattle.std.specs.Prelude.{◌≡◌, ℕ, Bool, true, false, Result, Ok, Err, if◌then◌else◌}
use Rattle.array_meaning.specs.declared.faults.FaultKind.{FaultKind}
use Rattle.array_meaning.specs.Faults.{Cause, Fault, fails}
use Rattle.machine_steps.specs.Instr.{Control}
use Rattle.machine_steps.specs.Machine.{on, faulted}
use Rattle.code_meaning.specs.Parallel.{fault_at}
use Rattle.term_values.specs.declared.stops.Stop.{Stop}
use Rattle.term_values.specs.declared.stops.Stop.TheVariants as stop
use Rattle.term_values.specs.Stops.{cause, IsStop}

-- after a stop, which isn't want of memory
abbrev pub IsStopped : ℕ → Stop → (old new : Control Fault) → Type 0
IsStopped line (stop.Fault c) old new = new ≡ faulted old (fault_at line (cause c))
IsStopped line stop.Memory old new = ⊥

-- after what a test answers
abbrev pub IsTested : ℕ → Result Unit Stop → (old new : Control Fault) → Type 0
IsTested line (Ok u) old new = new ≡ on old
IsTested line (Err e) old new = IsStopped line e old new

abbrev pub has_value : {A : Type 0} → Result A Cause → Bool
has_value (Ok a) = true
has_value (Err c) = false

-- nothing is wrong, or there is a fault of this kind
abbrev pub passing : Bool → FaultKind → Result ℕ Cause
passing passes kind = if passes then Ok 0 else fails kind

-- a test answers whether an evaluation has a value, and else what it ends with
abbrev pub IsTest : {A : Type 0} → Result A Cause → Result Unit Stop → Type 0
IsTest r (Ok u) = has_value r ≡ true
IsTest r (Err e) = IsStop r e
