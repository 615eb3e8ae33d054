-- Of a promise.
-- Places by runs: run-length encoding.
use Rattle.std.specs.Prelude.{ℕ, ◌+◌, ◌-◌, ◌^◌, ◌≤◌, min, nat_lt, if◌then◌else◌, List, [], ◌∷◌, All}
use Rattle.std.specs.List.Sorted.{IsNonDecreasingBy}
use Rattle.periodic_runs.specs.declared.runs.Place.{Place}
use Rattle.periodic_runs.specs.declared.runs.Run.{Run}

-- the place of no part and no rank
abbrev pub no_place : Place
no_place = record { part = 0; rank = 0 }

-- the run before all others
abbrev pub no_run : Run
no_run = record { first = 0; part = 0; rank = 0 }

abbrev pub first_of : Run → ℕ
first_of run = run.first

-- a rank is a number of 32 bits
abbrev pub capped : ℕ → ℕ
capped rank = min rank (2 ^ 32 - 1)

-- the last one, of a run and those after it, that begins at a number or before it
abbrev pub run_at : Run → List Run → ℕ → Run
run_at before [] number = before
run_at before (run ∷ runs) number = run_at (if nat_lt number run.first then before else run) runs number

-- a place of a run: it adds the same as the first, and its rank is greater by as much as it lies behind the first
abbrev pub placed : Run → ℕ → Place
placed run number = record { part = run.part; rank = capped (run.rank + (number - run.first)) }

-- the place of a number, as the run in which it lies goes on
abbrev pub place_in : List Run → ℕ → Place
place_in runs number = placed (run_at no_run runs number) number

-- runs of so many places: they stand in the order in which they begin, and none begins after the places
pub record AreRuns (runs : List Run) (len : ℕ) : Type 0 where
  pub ascends : IsNonDecreasingBy first_of runs
  pub inside : All (λ run. run.first ≤ len) runs
