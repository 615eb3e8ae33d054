-- Of a promise.
-- What it says that a value or a place is known.
use Rattle.std.specs.Prelude.{◌≡◌, ℕ, ℤ, true, Result, Ok}
use Rattle.array_meaning.specs.Faults.{Cause}
use Rattle.scalar_values.specs.declared.known_results.Known.{Known}
use Rattle.scalar_values.specs.declared.known_results.KnownPlace.{KnownPlace}

-- a value that is known is that of the evaluation, which has no fault; one that isn't says nothing
abbrev pub IsKnown : Result ℤ Cause → Known → Type 0
IsKnown r x = x.known ≡ true → r ≡ Ok x.value

-- the same of a place
abbrev pub IsKnownPlace : Result ℕ Cause → KnownPlace → Type 0
IsKnownPlace r p = p.known ≡ true → r ≡ Ok p.place
