-- What goes by an evaluation, where it stops.
use Rattle.std.proofs.Common.{◌≡◌, ◌∙◌, ℕ, refl, ap, sym, Result, Ok, Err}
use Rattle.std.proofs.lemmas.Bool.{false≢true}
use Rattle.array_meaning.specs.Faults.{Cause, Fault}
use Rattle.machine_steps.specs.Instr.{Control}
use Rattle.machine_steps.specs.Machine.{faulted}
use Rattle.code_meaning.specs.Instructions.{go_on_if}
use Rattle.code_meaning.specs.Parallel.{at_line, fault_at}
use Rattle.slot_values.specs.Tested.{IsStopped, IsTest, IsTested}
use Rattle.term_values.specs.declared.stops.Stop.{Stop}
use Rattle.term_values.specs.declared.stops.Stop.TheVariants as stop
use Rattle.term_values.specs.Stops.{cause, IsStop}

-- a run that ends with a fault where an evaluation has one
pub stopped_as : {A : Type 0} (line : ℕ) (next : Result A Fault → Control Fault) (old new : Control Fault) (r : Result A Cause) (e : Stop) → ((k : Fault) → next (Err k) ≡ faulted old k) →
    IsStop r e → IsStopped line e old new → new ≡ next (at_line line r)
stopped_as line next old new r (stop.Fault c) ends is stopped = stopped ∙ sym (ap (λ r. next (at_line line r)) is ∙ ends (fault_at line (cause c)))
stopped_as line next old new r stop.Memory ends is stopped = absurd stopped

pub tested_as : {A : Type 0} (line : ℕ) (old new : Control Fault) (r : Result A Cause) (t : Result Unit Stop) → IsTest r t → IsTested line t old new → new ≡ go_on_if (at_line line r) old
tested_as line old new (Ok a) (Ok u) test tested = tested
tested_as line old new (Err c) (Ok u) test tested = absurd (false≢true test)
tested_as line old new r (Err e) test tested = stopped_as line (λ r. go_on_if r old) old new r e (λ k. refl) test tested
