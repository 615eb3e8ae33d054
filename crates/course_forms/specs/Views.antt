-- Of a promise.
-- What contracts see of courses, of linear forms and of references.
use Rattle.std.specs.Prelude.{List, map}
use Rattle.courses.specs.Courses.{Course, Fixed, Moving}
use Rattle.courses.specs.References.{Named}
use Rattle.courses.specs.StraightForms.{Straight, Constant, Sloped}
use Rattle.courses.specs.TurnedForms.{Turned}
use Rattle.course_forms.specs.declared.course.Course.{Course as HeldCourse}
use Rattle.course_forms.specs.declared.course.Course.TheVariants as held_course
use Rattle.course_forms.specs.declared.reference.Reference.{Reference}
use Rattle.course_forms.specs.declared.straight.Straight.{Straight as Held}
use Rattle.course_forms.specs.declared.straight.Straight.TheVariants as held
use Rattle.course_forms.specs.declared.turned.Turned.{Turned as HeldTurned}

abbrev pub straight_of : Held → Straight
straight_of (held.Constant v) = Constant v
straight_of (held.Sloped k f o) = Sloped k f o

abbrev pub turned_of : HeldTurned → Turned
turned_of x = record { lower = x.lower; count = x.count; above = straight_of x.above }

abbrev pub course_of : HeldCourse → Course
course_of (held_course.Fixed i) = Fixed i
course_of (held_course.Moving axis first step) = Moving axis first step

abbrev pub courses_of : List HeldCourse → List Course
courses_of = map course_of

abbrev pub named_of : Reference → Named
named_of r = record { row = r.row; dims = r.dims; courses = courses_of r.courses.items }

abbrev pub names_of : List Reference → List Named
names_of = map named_of
