-- Of private clauses.
-- No public clause cites this file.
-- What one node sends another at a redistribution, and the elements of a row as what is named over a space.
use Rattle.std.specs.Prelude.{ℕ, ◌+◌, Bool, ◌&&◌, List, [], ◌∷◌, pos}
use Rattle.expression_rules.specs.declared.dims.Dim.{Dim}
use Rattle.storage.specs.Storage.{Spot}
use Rattle.machine_steps.specs.Layout.{Layout, owns_spot}
use Rattle.message_elements.specs.Elements.{is_sent}
use Rattle.courses.specs.Courses.{Course, Moving}
use Rattle.courses.specs.References.{Named}

-- by how the rows lie before, the one node sends the element to the other, which owns it after
abbrev pub is_moved : ℕ → (old new : List Layout) → (from to : ℕ) → Spot → Bool
is_moved nodes old new from to spot = is_sent nodes old from to spot && owns_spot new to spot

-- the subscripts of the elements of a row, each along an axis of its own, of which the first that is left has this number
abbrev pub row_courses : ℕ → List Dim → List Course
row_courses axis [] = []
row_courses axis (d ∷ ds) = Moving axis d.lower (pos 1) ∷ row_courses (axis + 1) ds

-- the elements of a row with these dimensions
abbrev pub named_row : List Dim → ℕ → Named
named_row ds row = record { row = row; dims = ds; courses = row_courses 0 ds }
