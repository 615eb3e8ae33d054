-- Of private clauses.
-- The first clash by how the objects were visited, row by row.
use Rattle.std.specs.Prelude.{ℕ, suc, List, [], ◌∷◌, Option}
use Rattle.array_meaning.specs.Clashes.{Clash}
use Rattle.nest_clash.specs.Scan.{better}
use Rattle.visited_objects.specs.declared.visits.Visit.{Visit as HeldVisit}
use Rattle.visited_objects.specs.Visits.{visit}

-- with the objects of a name from a place on
abbrev pub in_places : ℕ → ℕ → List HeldVisit → Option Clash → Option Clash
in_places name place [] best = best
in_places name place (v ∷ vs) best = in_places name (suc place) vs (better best name place (visit v))

-- with those of all names from one on
abbrev pub in_rows : ℕ → List (List HeldVisit) → Option Clash → Option Clash
in_rows name [] best = best
in_rows name (row ∷ rows) best = in_rows (suc name) rows (in_places name 0 row best)
