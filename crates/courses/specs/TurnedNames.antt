-- Of a promise.
-- A reference to an array whose first subscript goes round its first dimension, as two: by the subscript before n is taken off, and by n less.
use Rattle.std.specs.Prelude.{ℕ, Bool, false, ◌&&◌, List, [], ◌∷◌, ◌++◌, slice_index_or, ℤ, pos, ◌+ℤ◌, ◌-ℤ◌, Option, Some, None, option_and_then, option_map, if◌then◌else◌}
use Rattle.std.specs.Ordering.{int_eq}
use Rattle.expression_rules.specs.declared.dims.Dim.{Dim}
use Rattle.expression_rules.specs.Dims.{extent}
use Rattle.node_code.specs.Flat.{Flat}
use Rattle.node_code.specs.Forms.{SubAt, ArrayForm, SectionForm}
use Rattle.node_code.specs.Parallel.{When}
use Rattle.code_meaning.specs.Parallel.{shape_of}
use Rattle.courses.specs.Courses.{Course, Fixed, Moving, is_small, are_small, along}
use Rattle.courses.specs.References.{Named, copy_names, indexed_courses, named_element, when_names}
use Rattle.courses.specs.StraightForms.{straight_course}
use Rattle.courses.specs.TurnedForms.{Turned, turned_in}

-- both, where there are both
abbrev pub and_both : {A : Type 0} → Option A → Option A → Option (A × A)
and_both (Some x) (Some y) = Some (x, y)
and_both x y = None

-- ---- subscripts

-- a course that goes so much further, over a space of these extents, where it is small
abbrev pub further : List ℕ → ℤ → Course → Option Course
further ns z (Fixed i) = if is_small (i +ℤ z) then Some (Fixed (i +ℤ z)) else None
further ns z (Moving axis first step) =
    if are_small (slice_index_or ns axis 0) (first +ℤ z) step then Some (along axis (slice_index_or ns axis 0) (first +ℤ z) step) else None

-- the courses of both subscripts
abbrev pub turned_courses : List ℕ → List Course → Turned → Option (Course × Course)
turned_courses ns is x =
    option_and_then (λ c. and_both (further ns x.lower c) (further ns (x.lower -ℤ x.count) c)) (straight_course ns is x.above)

-- ---- references

-- the first dimension has this lower bound, and n subscripts
abbrev pub is_of_first : Turned → List Dim → Bool
is_of_first x [] = false
is_of_first x (d ∷ ds) = int_eq d.lower x.lower && int_eq (pos (extent d)) x.count

-- the courses of both, of the first subscript of an array with these dimensions
abbrev pub first_courses : List ℤ → List ℕ → List Course → List Dim → Flat → Option (Course × Course)
first_courses slots ns is ds f = option_and_then (λ x. if is_of_first x ds then turned_courses ns is x else None) (turned_in slots f)

-- both references, by the courses of the first subscript and those of the others
abbrev pub both_named : List (List Dim) → ℕ → Option (Course × Course) → Option (List Course) → Option (Named × Named)
both_named shapes a (Some p) (Some cs) = and_both (named_element shapes a (Some (p.0 ∷ cs))) (named_element shapes a (Some (p.1 ∷ cs)))
both_named shapes a p cs = None

-- those of an array expression that is such a reference, by the courses of the indices
abbrev pub turned_names : List (List Dim) → List ℤ → List ℕ → List Course → ArrayForm → Option (Named × Named)
turned_names shapes slots ns is (SectionForm a (SubAt f ∷ subs)) =
    both_named shapes a (first_courses slots ns is (shape_of shapes a) f) (indexed_courses slots ns is subs)
turned_names shapes slots ns is form = None

-- ---- what is read

-- all that is read at a tuple by masks, by copies and by such a reference
abbrev pub all_turned_names : List (List Dim) → List ℤ → List ℕ → Option (List Course) → List When → List ℕ → ArrayForm → Option (List Named)
all_turned_names shapes slots ns None whens copies form = None
all_turned_names shapes slots ns (Some is) whens copies form =
    option_map (λ p. (when_names ns whens ++ copy_names ns copies) ++ (p.0 ∷ p.1 ∷ [])) (turned_names shapes slots ns is form)
