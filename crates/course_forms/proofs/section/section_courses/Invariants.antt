use Rattle.std.proofs.Common.{◌≡◌, ◌≤◌, ◌++◌, drop, length, map}
use Rattle.courses.specs.Courses.{is_section_small, section_courses}
use Rattle.course_forms.specs.Views.{course_of}
use Rattle.course_forms.proofs.section.section_courses.Given as goal

-- the courses so far, before those that are left
abbrev pub invariant-loop-d : goal.invariant-loop-d
invariant-loop-d l =
    (l.used ≤ length l.ns) × (is_section_small l.ns l.ds ≡ is_section_small (drop l.used l.ns) (drop l.d-index l.ds))
    × (section_courses 0 l.ns l.ds ≡ map course_of l.cs.items ++ section_courses l.used (drop l.used l.ns) (drop l.d-index l.ds))
