use Rattle.std.proofs.Common.{◌≡◌, drop}
use Rattle.courses.specs.Subscripts.{axis_pass, in_dim}
use Rattle.course_forms.specs.Views.{courses_of}
use Rattle.owned_places.proofs.inside.are_inside_at.Given as goal

-- what is left of the courses decides
abbrev pub invariant-loop-k : goal.invariant-loop-k
invariant-loop-k l =
    axis_pass (in_dim l.dims) 0 (courses_of l.courses) l.axis l.place ≡ axis_pass (in_dim l.dims) l.k (drop l.k (courses_of l.courses)) l.axis l.place
