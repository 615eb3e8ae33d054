-- Of a promise.
-- How all objects were visited, by name and place.
use Rattle.std.specs.Prelude.{ℕ, nat_eq, List, [], slice_index_or, Bool, ◌&&◌, if◌then◌else◌}
use Rattle.array_meaning.specs.Touches.{Touch}
use Rattle.nest_clash.specs.Visits.{Visit, Untouched, Read, Written, Met, touched_by}
use Rattle.visited_objects.specs.declared.visits.Visit.{Visit as HeldVisit}
use Rattle.visited_objects.specs.declared.visits.Visit.TheVariants as held

abbrev pub visit : HeldVisit → Visit
visit held.Untouched = Untouched
visit (held.Read a) = Read a
visit (held.Written a) = Written a
visit (held.Met a b) = Met a b

-- an object that lies beyond a row, and one of a name without a row, is untouched
abbrev pub in_row : List HeldVisit → ℕ → Visit
in_row row place = visit (slice_index_or row place held.Untouched)

abbrev pub visits_of : List (List HeldVisit) → ℕ → ℕ → Visit
visits_of rows name place = in_row (slice_index_or rows name []) place

-- a row, and all objects, after one more touch
abbrev pub touched_in_row : ℕ → (ℕ → Visit) → ℕ → Bool → ℕ → Visit
touched_in_row i visits place writes = λ y. if nat_eq place y then touched_by i (visits y) writes else visits y

abbrev pub touched : ℕ → (ℕ → ℕ → Visit) → Touch → ℕ → ℕ → Visit
touched i visits t = λ x y. if nat_eq t.name x && nat_eq t.place y then touched_by i (visits x y) t.writes else visits x y
