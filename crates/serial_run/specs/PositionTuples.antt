-- Of private clauses.
-- The tuples of positions of a space, one after the other.
use Rattle.std.specs.Prelude.{◌≡◌, ℕ, ◌+◌, ◌%◌, nat_lt, Bool, false, List, [], ◌∷◌}
use Rattle.array_meaning.specs.Sections.{positions}
use Rattle.serial_run.specs.declared.position_tuples.PositionTuple.{PositionTuple}

-- the first position, from 0, of the tuple with a number
abbrev pub first_position : List ℕ → ℕ → ℕ
first_position [] t = 0
first_position (n ∷ ns) t = t % n

-- whether the first dimension has a position after one
abbrev pub has_next : List ℕ → ℕ → Bool
has_next [] place = false
has_next (n ∷ ns) place = nat_lt (place + 1) n

-- the tuple with a number
pub record ArePositions (extents : List ℕ) (t : ℕ) (x : PositionTuple) : Type 0 where
  pub place : x.place ≡ first_position extents t
  pub values : x.values.items ≡ positions extents t
