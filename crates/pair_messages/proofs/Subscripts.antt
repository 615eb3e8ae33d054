-- The subscripts at the places of a tuple, one by one.
use Rattle.std.proofs.Common.{◌≡◌, ℕ, ◌<◌, List, length, get_or, ℤ, ◌∙◌, ap, arith}
use Rattle.std.proofs.lemmas.List.{get_or-map, length-map}
use Rattle.courses.specs.Courses.{course_at, courses_at}
use Rattle.course_forms.specs.declared.course.Course.{Course}
use Rattle.course_forms.specs.Views.{course_of, courses_of}

pub as-many : (places : List ℕ) (cs : List Course) → length (courses_at places (courses_of cs)) ≡ length cs
as-many places cs = length-map (courses_of cs) (course_at places) ∙ length-map cs course_of

pub subscript-at : (places : List ℕ) (cs : List Course) (k : ℕ) (d : Course) (i : ℤ) → k < length cs
    → get_or (courses_at places (courses_of cs)) k i ≡ course_at places (course_of (get_or cs k d))
subscript-at places cs k d i within =
    get_or-map (course_at places) (courses_of cs) k (course_of d) i (omega (arith, within, length-map cs course_of))
    ∙ ap (course_at places) (get_or-map course_of cs k d (course_of d) within)
