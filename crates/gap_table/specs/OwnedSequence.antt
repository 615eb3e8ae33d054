-- Of a promise.
-- Which places of a regular section of a line a node owns (HPF 2.0, 3.3). Positions are counted from 1, places from 0.
use Rattle.std.specs.Prelude.{ℕ, ◌<◌, ◌==◌, ℤ, pos, ◌+ℤ◌, ◌*ℤ◌, ◌≤ℤ◌, unsigned_abs, List, filter}
use Rattle.std.specs.List.{range_with_len}
use Rattle.mappings.specs.declared.mapping.Form.{Form}
use Rattle.mappings.specs.declared.mapping.Line.{Line}
use Rattle.mappings.specs.Owner.{coordinate_under}

-- the position of a place of the section with this start and stride
abbrev pub position_of : ℕ → ℤ → ℕ → ℤ
position_of start stride j = pos start +ℤ (stride *ℤ pos j)

-- the positions of all places lie inside the line
abbrev pub IsSectionOf : Line → ℕ → ℤ → ℕ → Type 0
IsSectionOf line start stride count = (j : ℕ) → j < count → (pos 1 ≤ℤ position_of start stride j) × (position_of start stride j ≤ℤ pos line.extent)

-- the places below count, ascending, whose positions a processor owns under a format
abbrev pub owned_under : Form → ℕ → ℕ → ℕ → ℤ → ℕ → List ℕ
owned_under form procs node start stride count =
    filter (λ j. coordinate_under form procs (unsigned_abs (position_of start stride j)) == node) (range_with_len 0 count)

-- the owned sequence: those places of a section of a line
abbrev pub owned_sequence : Line → ℕ → ℕ → ℤ → ℕ → List ℕ
owned_sequence line = owned_under line.form line.procs
