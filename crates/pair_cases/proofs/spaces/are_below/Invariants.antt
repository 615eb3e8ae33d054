use Rattle.std.proofs.Common.{drop}
use Rattle.courses.specs.Subscripts.{AxesBelow}
use Rattle.course_forms.specs.Views.{courses_of}
use Rattle.pair_cases.proofs.spaces.are_below.Given as goal

-- those that are left decide
abbrev pub invariant-loop-course : goal.invariant-loop-course
invariant-loop-course l = AxesBelow l.axes (courses_of (drop l.course-index l.courses)) → AxesBelow l.axes (courses_of l.courses)
