use Rattle.std.proofs.Common.{◌≡◌, drop}
use Rattle.courses.specs.Subscripts.{axis_pass}
use Rattle.course_forms.specs.Views.{courses_of}
use Rattle.owned_places.specs.Dims.{held_dim}
use Rattle.owned_places.proofs.passing.are_held_at.Given as goal

-- what is left of the courses decides
abbrev pub invariant-loop-k : goal.invariant-loop-k
invariant-loop-k l =
    axis_pass (held_dim l.dims l.mapping l.node) 0 (courses_of l.courses) l.axis l.place
    ≡ axis_pass (held_dim l.dims l.mapping l.node) l.k (drop l.k (courses_of l.courses)) l.axis l.place
