use Rattle.std.proofs.Common.{drop}
use Rattle.course_forms.specs.Views.{courses_of}
use Rattle.owned_places.specs.Dims.{AreInsideFrom}
use Rattle.owned_places.proofs.inside.are_inside.Given as goal

-- if what is left of the courses is inside, all are
abbrev pub invariant-loop-k : goal.invariant-loop-k
invariant-loop-k l = AreInsideFrom l.dims l.extents l.k (drop l.k (courses_of l.courses)) → AreInsideFrom l.dims l.extents 0 (courses_of l.courses)
