use Rattle.std.proofs.Common.{◌≡◌, drop}
use Rattle.course_forms.specs.Views.{courses_of}
use Rattle.pair_messages.specs.Enough.{moves_on}
use Rattle.pair_messages.proofs.places.moves_on.Given as goal

-- those that are left decide
abbrev pub invariant-loop-course : goal.invariant-loop-course
invariant-loop-course l = moves_on (courses_of l.courses) l.axis ≡ moves_on (courses_of (drop l.course-index l.courses)) l.axis
