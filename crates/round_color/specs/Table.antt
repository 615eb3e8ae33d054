-- Of the claim.
-- A colouring as a table, with a row for each source. Beside `ends` only private contracts cite it.
use Rattle.std.specs.Prelude.{ℕ, ◌+◌, ◌*◌, nat_lt, Bool, true, false, if◌then◌else◌, List, get_or, Option, None}
use Rattle.letters.specs.declared.pair.Pair.{Pair}
use Rattle.round_color.specs.Coloring.{Colors, turned}

-- the numbers of the two nodes
abbrev pub ends : Pair → ℕ × ℕ
ends pair = (pair.from.0, pair.to.0)

-- what a table says of so many nodes
abbrev pub seen : (nodes : ℕ) → List (Option ℕ) → Colors
seen nodes table source target = if nat_lt target nodes then get_or table (source * nodes + target) None else None

-- a colouring as it is, or seen from the targets
abbrev pub sided : (at_target : Bool) → Colors → Colors
sided true colors = turned colors
sided false colors = colors
