-- Of a promise.
-- What a statement does at tuples at equal distances.
use Rattle.std.specs.Prelude.{◌≡◌, ℕ, ◌+◌, ◌-◌, ◌*◌, ◌%◌, ◌<◌, List, [], ◌∷◌, length, map, slice_index_or, ℤ, pos, Option, Some, option_map, Result, Ok}
use Rattle.storage.specs.Storage.{Spot}
use Rattle.array_meaning.specs.Faults.{Cause}
use Rattle.machine_steps.specs.Instr.{Value}
use Rattle.machine_steps.specs.Machine.{value_by}
use Rattle.tuple_values.specs.declared.strips.Strip.{Strip}
use Rattle.tuple_values.specs.declared.strips.ElementLine.{ElementLine}
use Rattle.tuple_values.specs.Statements.{Statement, tuple_count, tuple_left, tuple_outcome, tuple_reads}

-- the number of a tuple of a strip, and the element of a line, by their places in it
abbrev pub strip_tuple : Strip → ℕ → ℕ
strip_tuple s k = s.first + k * s.step

abbrev pub line_spot : ElementLine → ℕ → Spot
line_spot l k = record { row = l.first.row; at = l.first.at + k * l.step }

abbrev pub spots_at : List ElementLine → ℕ → List (Option Spot)
spots_at ls k = map (λ l. Some (line_spot l k)) ls

-- its tuples are two at least and lie in one row of the first axis of a space
abbrev pub IsInRow : List ℕ → Strip → Type 0
IsInRow [] s = ⊥
IsInRow (n ∷ ns) s = (1 < s.count) × (s.first % n + (s.count - 1) * s.step < n)

module _ (w : Statement) (s : Strip) where
  -- its tuples are tuples of the statement
  abbrev pub IsWithin : Type 0
  IsWithin = (k : ℕ) → k < s.count → strip_tuple s k < tuple_count w

  -- these lines are what the tuples read, in order
  abbrev pub AreReadLines : List ElementLine → Type 0
  AreReadLines ls = (k : ℕ) → k < s.count → tuple_reads w (strip_tuple s k) ≡ spots_at ls k

  -- this one is what they assign, where something is
  abbrev pub IsLeftLine : Option ElementLine → Type 0
  IsLeftLine l = (k : ℕ) → k < s.count → tuple_left w (strip_tuple s k) ≡ option_map (λ l. line_spot l k) l

  -- each tuple comes to a value, by the elements, and these are the values
  pub record AreStripValues (get : Spot → ℤ) (vs : List ℤ) : Type 0 where
    pub count : length vs ≡ s.count
    pub at : (k : ℕ) → k < s.count → tuple_outcome w (strip_tuple s k) (map (value_by get) (tuple_reads w (strip_tuple s k))) ≡ Value (slice_index_or vs k (pos 0))
