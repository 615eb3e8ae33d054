-- Of private clauses.
-- The tuples by which the lines of a strip are found. Private contracts alone cite this.
use Rattle.std.specs.Prelude.{◌≡◌, ℕ, ◌-◌, ◌<◌, List, Option, Some}
use Rattle.storage.specs.Storage.{Spot}
use Rattle.tuple_values.specs.declared.strips.Strip.{Strip}
use Rattle.tuple_values.specs.declared.strips.ElementLine.{ElementLine}
use Rattle.tuple_values.specs.declared.strip_lines.Ends.{Ends}
use Rattle.tuple_values.specs.Strips.{line_spot, spots_at, strip_tuple}

-- its first two tuples and its last, which are two at least
pub record AreEnds (s : Strip) (e : Ends) : Type 0 where
  pub two : 1 < s.count
  pub place : e.place ≡ s.count - 1
  pub first : e.first ≡ strip_tuple s 0
  pub second : e.second ≡ strip_tuple s 1
  pub last : e.last ≡ strip_tuple s (s.count - 1)

-- what something gives of tuples is a line, and lines, at these three
pub record IsLine (f : ℕ → Option Spot) (s : Strip) (l : ElementLine) : Type 0 where
  pub first : f (strip_tuple s 0) ≡ Some (line_spot l 0)
  pub second : f (strip_tuple s 1) ≡ Some (line_spot l 1)
  pub last : f (strip_tuple s (s.count - 1)) ≡ Some (line_spot l (s.count - 1))

pub record AreLines (f : ℕ → List (Option Spot)) (s : Strip) (ls : List ElementLine) : Type 0 where
  pub first : f (strip_tuple s 0) ≡ spots_at ls 0
  pub second : f (strip_tuple s 1) ≡ spots_at ls 1
  pub last : f (strip_tuple s (s.count - 1)) ≡ spots_at ls (s.count - 1)
