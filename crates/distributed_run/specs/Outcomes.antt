-- Of a promise.
-- What a run on nodes comes to, against the outcome of the definitions.
use Rattle.std.specs.Prelude.{◌≡◌, map}
use Rattle.array_meaning.specs.Serial as serial
use Rattle.array_meaning.specs.Serial.{Outcome}
use Rattle.serial_run.specs.Outcomes.{end_seen}
use Rattle.distributed_run.specs.declared.run.NodesOutcome.{NodesOutcome}

-- the bytes printed, the end and, where the program is finished, the last arrays are the outcome's
pub record IsOutcome (o : NodesOutcome) (outcome : Outcome) : Type 0 where
  pub printed : o.printed.items ≡ outcome.printed
  pub end : end_seen o.end ≡ outcome.end
  pub arrays : outcome.end ≡ serial.Finished → map (λ a. a.items) o.arrays.items ≡ outcome.arrays
