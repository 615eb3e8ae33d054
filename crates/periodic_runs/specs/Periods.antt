-- Of private clauses.
-- Places that are expected to repeat after a period.
use Rattle.std.specs.Prelude.{◌≡◌, ℕ, ◌+◌, ◌*◌, ◌/◌, ◌%◌, ◌≤◌, nat_lt, if◌then◌else◌, List, length, slice_index_or}
use Rattle.periodic_runs.specs.declared.runs.Place.{Place}
use Rattle.periodic_runs.specs.Runs.{capped, no_place}

-- a place so many periods later: it adds the same, and its rank is greater by the gain of its part in each
abbrev pub later : List ℕ → ℕ → Place → Place
later gains times place = record { part = place.part; rank = capped (place.rank + capped (times * slice_index_or gains place.part 0)) }

-- the place of a number: one of the first places, or the one of these at which its number lies in its period, so many periods later
abbrev pub expected : List Place → List ℕ → ℕ → ℕ → Place
expected front gains period number =
    if nat_lt number period then slice_index_or front number no_place else later gains (number / period) (slice_index_or front (number % period) no_place)

-- so many places that repeat: as long as they are no more than a period, they are the first places
pub record IsRepeated (front : List Place) (period len : ℕ) : Type 0 where
  pub some : 1 ≤ period
  pub first : len ≤ period → length front ≡ len
