use Rattle.std.proofs.Common.{◌≡◌, drop}
use Rattle.node_code.specs.Texts.{subs}
use Rattle.courses.specs.References.{indexed_courses}
use Rattle.course_forms.specs.Views.{courses_of}
use Rattle.course_forms.proofs.Before.{before}
use Rattle.course_forms.proofs.indexed.indexed_courses.Given as goal

-- the courses so far, before those that are left
abbrev pub invariant-loop-d : goal.invariant-loop-d
invariant-loop-d l =
    indexed_courses l.slots l.ns (courses_of l.is) (subs l.section)
    ≡ before (courses_of l.cs.items) (indexed_courses l.slots l.ns (courses_of l.is) (subs (drop l.d-index l.section)))
