-- Of a promise.
-- The outcome of the definitions that an outcome in code is.
use Rattle.std.specs.Prelude.{map}
use Rattle.array_meaning.specs.Serial.{End, Finished, Faulted, Outcome}
use Rattle.serial_run.specs.declared.serial.End.{End as HeldEnd}
use Rattle.serial_run.specs.declared.serial.End.TheVariants as held
use Rattle.serial_run.specs.declared.serial.Outcome.{Outcome as HeldOutcome}
use Rattle.term_values.specs.Faults.{fault}

abbrev pub end_seen : HeldEnd → End
end_seen held.Finished = Finished
end_seen (held.Faulted f) = Faulted (fault f)

abbrev pub outcome_seen : HeldOutcome → Outcome
outcome_seen o = record { printed = o.printed.items; end = end_seen o.end; arrays = map (λ a. a.elements) o.arrays.items }
