-- Of a promise.
-- What a node owns of what a reference names.
use Rattle.std.specs.Prelude.{ℕ, List}
use Rattle.mappings.specs.declared.mapping.Mapping.{Mapping}
use Rattle.expression_rules.specs.declared.dims.Dim.{Dim}
use Rattle.axis_products.specs.Tests.{Test, and_test}
use Rattle.courses.specs.Courses.{Course}
use Rattle.courses.specs.Owners.{bounds_test, owner_test}
use Rattle.course_forms.specs.Views.{courses_of}
use Rattle.owned_places.specs.declared.holding.Holding.{Holding}

-- what has the subscripts of these courses is in bounds, and the node's
abbrev pub held_by : List Dim → Mapping → ℕ → List Course → Test
held_by dims mapping node courses = and_test (bounds_test dims courses) (owner_test mapping node courses)

-- the test of the tuples at which the node owns what is named
abbrev pub test_of : Holding → Test
test_of h = held_by h.dims.now h.mapping.now h.node (courses_of h.courses.now)
