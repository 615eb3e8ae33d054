use Rattle.std.proofs.Common.{◌≡◌, filter, map}
use Rattle.std.specs.List.{range_with_len}
use Rattle.courses.specs.Subscripts.{axis_pass}
use Rattle.course_forms.specs.Views.{courses_of}
use Rattle.owned_places.specs.Candidates.{candidate}
use Rattle.owned_places.specs.Dims.{held_dim}
use Rattle.owned_places.proofs.passing.places_held.Given as goal

-- those of the candidates so far
abbrev pub invariant-loop-n : goal.invariant-loop-n
invariant-loop-n l =
    l.places.items ≡ filter (axis_pass (held_dim l.dims l.mapping l.node) 0 (courses_of l.courses) l.axis) (map (candidate l.candidates) (range_with_len 0 l.n))
