-- Of a promise.
-- Ascending lists of places by the offsets of one period (S. Chatterjee and others, Generating local addresses and
-- communication sets for data-parallel programs, 1995).
use Rattle.std.specs.Prelude.{ℕ, ◌+◌, ◌*◌, ◌/◌, ◌%◌, ◌≤◌, ◌<◌, nat_lt, List, All, find, length, map, slice_index_or, Option}
use Rattle.std.specs.List.{range_with_len}
use Rattle.std.specs.List.Sorted.{IsStrictlyIncreasing}
use Rattle.mappings.specs.declared.limits.TheConstants.{MAX_CYCLIC, MAX_TEMPLATE_EXTENT}

-- what contracts see of a table: the place at which the first period begins, how long a period is, the offsets of its places,
-- and how many places there are in all periods
pub record GapView : Type 0 where
  pub base : ℕ
  pub period : ℕ
  pub offsets : List ℕ
  pub len : ℕ

-- the n-th place, from 0, of periods from this base with these offsets
abbrev pub place_at : ℕ → ℕ → List ℕ → ℕ → ℕ
place_at base period offsets n = base + (slice_index_or offsets (n % length offsets) 0 + period * (n / length offsets))

abbrev pub nth_of : GapView → ℕ → ℕ
nth_of t n = place_at t.base t.period t.offsets n

-- all places of a table
abbrev pub places_of : GapView → List ℕ
places_of t = map (nth_of t) (range_with_len 0 t.len)

-- the first place above j
abbrev pub next : GapView → ℕ → Option ℕ
next t j = find (λ place. nat_lt j place) (places_of t)

-- so many places are at most j: these are the first ones, and those after them are above j
pub record IsCountUpTo (t : GapView) (j count : ℕ) : Type 0 where
  pub within : count ≤ t.len
  pub before : (n : ℕ) → n < count → nth_of t n ≤ j
  pub after : (n : ℕ) → count ≤ n → n < t.len → j < nth_of t n

-- what holds of every table: its offsets are ascending and lie inside the period, and its places are below the greatest extent of a line
pub record IsGapTable (t : GapView) : Type 0 where
  pub some : 0 < t.period
  pub ascends : IsStrictlyIncreasing t.offsets
  pub below : All (λ offset. offset < t.period) t.offsets
  pub filled : 0 < t.len → 0 < length t.offsets
  pub few : length t.offsets ≤ MAX_CYCLIC
  pub small : (n : ℕ) → n < t.len → nth_of t n < MAX_TEMPLATE_EXTENT
