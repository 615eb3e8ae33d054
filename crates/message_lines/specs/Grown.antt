-- Of private clauses.
-- No public clause cites this file. Copies after rows, up to rows that are named.
use Rattle.std.specs.Prelude.{ℕ, ◌+◌, ◌-◌, List, [], ◌∷◌, ◌++◌, length, replicate, nat_lt, Option, Some, None, if◌then◌else◌}
use Rattle.code_meaning.specs.Beside.{Anchor}
use Rattle.machine_steps.specs.Layout.{Layout}

-- what is assigned in one of the first so many rows
abbrev pub among : ℕ → Option Anchor → Option Anchor
among count None = None
among count (Some a) = if nat_lt a.row count then Some a else None

-- a row is there
abbrev pub up_to : Layout → List Layout → ℕ → List Layout
up_to copy layouts row = layouts ++ replicate (row + 1 - length layouts) copy

-- and each of these rows
abbrev pub grown : Layout → List Layout → List ℕ → List Layout
grown copy layouts [] = layouts
grown copy layouts (row ∷ rows) = grown copy (up_to copy layouts row) rows
