-- Of a promise.
-- What evaluations at tuples end with.
use Rattle.std.specs.Prelude.{◌≡◌, List, ℤ}
use Rattle.array_meaning.specs.Faults.{AtTuple}
use Rattle.term_values.specs.declared.stops.Stop.{Stop}
use Rattle.term_values.specs.declared.stops.Stop.TheVariants.{Fault, Memory}
use Rattle.term_values.specs.Stops.{cause}

-- a stop, and the same at a tuple
abbrev pub IsAtTuple : List ℤ → Stop → Stop → Type 0
IsAtTuple tuple (Fault c) (Fault d) = cause d ≡ record { kind = c.kind; at = AtTuple tuple }
IsAtTuple tuple Memory (Fault d) = ⊥
IsAtTuple tuple e Memory = Unit {0}
