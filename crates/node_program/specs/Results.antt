-- Of private clauses.
-- No public clause cites this file. Results of evaluations in code, as those of the definitions.
use Rattle.std.specs.Prelude.{ℤ, Result, Ok, Err}
use Rattle.storage.specs.Storage.{Spot}
use Rattle.storage.specs.declared.spot.Spot.{Spot as HeldSpot}
use Rattle.storage.specs.Spots.{spot_of}
use Rattle.array_meaning.specs.Faults.{Fault}
use Rattle.term_values.specs.declared.faults.Fault.{Fault as HeldFault}
use Rattle.term_values.specs.Faults.{fault}

abbrev pub spot_result : Result HeldSpot HeldFault → Result Spot Fault
spot_result (Ok spot) = Ok (spot_of spot)
spot_result (Err f) = Err (fault f)

abbrev pub value_result : Result ℤ HeldFault → Result ℤ Fault
value_result (Ok v) = Ok v
value_result (Err f) = Err (fault f)
