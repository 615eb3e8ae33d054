use Rattle.std.proofs.Common.{◌≡◌, ◌++◌, drop}
use Rattle.course_forms.specs.Views.{courses_of}
use Rattle.pair_messages.specs.Moved.{row_courses}
use Rattle.pair_messages.proofs.rows.row_courses.Given as goal

-- the courses so far, before those of the dimensions that are left
abbrev pub invariant-loop-axis : goal.invariant-loop-axis
invariant-loop-axis l = courses_of l.courses.items ++ row_courses l.axis (drop l.axis l.dims) ≡ row_courses 0 l.dims
