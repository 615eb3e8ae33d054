use Rattle.std.proofs.Common.{◌≡◌, ◌++◌, drop}
use Rattle.courses.specs.References.{own_courses}
use Rattle.course_forms.specs.Views.{courses_of}
use Rattle.course_forms.proofs.reference.own_courses.Given as goal

-- the courses so far, before those of the axes that are left
abbrev pub invariant-loop-axis : goal.invariant-loop-axis
invariant-loop-axis l = courses_of l.cs.items ++ own_courses l.axis (drop l.axis l.ns) ≡ own_courses 0 l.ns
