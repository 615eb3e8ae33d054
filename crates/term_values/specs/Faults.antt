-- Of a promise.
-- The fault of the definitions that one in code stands for.
use Rattle.array_meaning.specs.Faults.{Fault}
use Rattle.term_values.specs.declared.faults.Fault.{Fault as HeldFault}
use Rattle.term_values.specs.Stops.{cause}

abbrev pub fault : HeldFault → Fault
fault f = record { line = f.line; kind = (cause f.cause).kind; at = (cause f.cause).at }
