-- Of a promise.
-- Places of an axis among which are all that pass a test.
use Rattle.std.specs.Prelude.{◌≡◌, ℕ, ◌+◌, ◌<◌, Bool, true, List, filter, length, map, min, IfSome, Option, Some, None}
use Rattle.std.specs.List.{range_with_len}
use Rattle.gap_table.specs.GapTable.{GapView, nth_of, places_of}
use Rattle.owned_places.specs.declared.candidates.Candidates.{Candidates}

-- none of the places below extent that pass is left out, and those that pass stand in order
abbrev pub KeepsPassing : (ℕ → Bool) → ℕ → List ℕ → Type 0
KeepsPassing passes extent places = filter passes places ≡ filter passes (range_with_len 0 extent)

-- a table of the numbers below count that pass a test
abbrev pub IsFiltered : (ℕ → Bool) → ℕ → GapView → Type 0
IsFiltered test count t = places_of t ≡ filter test (range_with_len 0 count)

-- a table of numbers below count with all that pass: those that pass a test which all of these pass
pub record IsTableOf (passes : ℕ → Bool) (count : ℕ) (t : GapView) : Type 0 where
  pub test : ℕ → Bool
  pub all : (n : ℕ) → passes n ≡ true → test n ≡ true
  pub places : IsFiltered test count t

-- the n-th number of a table; n itself without one
abbrev pub number_in : Option GapView → ℕ → ℕ
number_in None n = n
number_in (Some t) n = nth_of t n

abbrev pub candidate : Candidates → ℕ → ℕ
candidate c n = c.begin + number_in c.table n

abbrev pub all_candidates : Candidates → List ℕ
all_candidates c = map (candidate c) (range_with_len 0 c.count)

-- how many places there are in a period, and how long that is
abbrev pub classes_in : Option GapView → ℕ
classes_in None = 1
classes_in (Some t) = length t.offsets

abbrev pub period_in : Option GapView → ℕ
period_in None = 1
period_in (Some t) = t.period

-- so many classes have a place
abbrev pub classes_of : Candidates → ℕ
classes_of c = min (classes_in c.table) c.count

abbrev pub period_of : Candidates → ℕ
period_of c = period_in c.table

-- places below extent with all that pass, and no others where they are said to be exact
pub record AreCandidates (passes : ℕ → Bool) (extent : ℕ) (c : Candidates) : Type 0 where
  pub length : IfSome c.table (λ t. c.count ≡ t.len)
  pub below : (n : ℕ) → n < c.count → candidate c n < extent
  pub kept : KeepsPassing passes extent (all_candidates c)
  pub exact : c.exact ≡ true → all_candidates c ≡ filter passes (range_with_len 0 extent)
