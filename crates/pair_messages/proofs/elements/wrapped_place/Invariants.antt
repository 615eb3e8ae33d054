use Rattle.std.proofs.Common.{◌≡◌, ◌≤◌, length, drop, Some}
use Rattle.array_meaning.specs.State.{element_place}
use Rattle.term_values.specs.Places.{in_64_bits}
use Rattle.axis_products.specs.Products.{places_at}
use Rattle.courses.specs.Courses.{courses_at}
use Rattle.course_forms.specs.Views.{courses_of}
use Rattle.pair_messages.proofs.elements.wrapped_place.Given as goal

-- the place by the subscripts from here on
abbrev pub invariant-loop-k : goal.invariant-loop-k
invariant-loop-k l = (l.k ≤ length l.dims)
    × (in_64_bits (element_place (drop l.k l.dims) (drop l.k (courses_at (places_at l.extents l.tuple) (courses_of l.courses)))) ≡ Some l.place)
