-- Of a promise.
-- What is read and assigned at the tuples of a parallel statement, by the courses of the subscripts.
use Rattle.std.specs.Prelude.{◌≡◌, ℕ, ◌+◌, ◌==◌, List, [], ◌∷◌, ◌++◌, length, map, ℤ, pos, Option, Some, None, option_map, if◌then◌else◌}
use Rattle.expression_rules.specs.declared.dims.Dim.{Dim}
use Rattle.storage.specs.Storage.{Spot}
use Rattle.array_meaning.specs.declared.sections.Selection.{Selection}
use Rattle.array_meaning.specs.State.{element_place}
use Rattle.node_code.specs.Forms.{Sub, SubAt, SubAlong, ArrayForm, FlatForm, SectionForm, OperationForm, Forms, NoForm, AndForm}
use Rattle.code_meaning.specs.Forms.{selections_at}
use Rattle.node_code.specs.Parallel.{When}
use Rattle.code_meaning.specs.Parallel.{shape_of}
use Rattle.axis_products.specs.Products.{places_at}
use Rattle.courses.specs.Courses.{Course, Moving, courses_at, section_courses, is_section_small}
use Rattle.courses.specs.StraightForms.{flat_course}
use Rattle.courses.specs.Subscripts.{AxesBelow}

-- elements of one row, of an array or of a copy: its dimensions, and the courses of the subscripts
pub record Named : Type 0 where
  pub row : ℕ
  pub dims : List Dim
  pub courses : List Course

-- a course for each dimension, along axes of a space that has so many
pub record IsAlongAxes (count : ℕ) (r : Named) : Type 0 where
  pub rank : length r.courses ≡ length r.dims
  pub axes : AxesBelow count r.courses

-- the place in its row of the element that is named at the places of a tuple, and the element at the tuple with a number
abbrev pub place_at_places : Named → List ℕ → Option ℕ
place_at_places r places = element_place r.dims (courses_at places r.courses)

abbrev pub named_spot : List ℕ → ℕ → Named → Option Spot
named_spot ns t r = option_map (λ k. record { row = r.row; at = k }) (place_at_places r (places_at ns t))

-- ---- subscripts

abbrev pub and_course : Option Course → Option (List Course) → Option (List Course)
and_course (Some c) (Some cs) = Some (c ∷ cs)
and_course c cs = None

-- those of a FORALL or a nest, by the courses of its indices; no triplet stands there
abbrev pub indexed_courses : List ℤ → List ℕ → List Course → List Sub → Option (List Course)
indexed_courses slots ns is [] = Some []
indexed_courses slots ns is (SubAt f ∷ subs) = and_course (flat_course slots ns is f) (indexed_courses slots ns is subs)
indexed_courses slots ns is (SubAlong v ∷ subs) = None

-- those of a section whose selections are known
abbrev pub selected_courses : List ℕ → List Selection → Option (List Course)
selected_courses ns ds = if is_section_small ns ds then Some (section_courses 0 ns ds) else None

-- those of the indices of a FORALL or a nest over these sequences, where none may wrap; a statement over sections has none
abbrev pub index_courses : List ℕ → Option (List Selection) → Option (Option (List Course))
index_courses ns None = Some None
index_courses ns (Some ds) = option_map Some (selected_courses ns ds)

-- those of a section, or by the courses of indices; None where one may wrap or isn't linear in one index
abbrev pub subs_courses : List ℤ → List ℕ → Option (List Course) → List Sub → Option (List Course)
subs_courses slots ns None subs = selected_courses ns (selections_at slots [] subs)
subs_courses slots ns (Some is) subs = indexed_courses slots ns is subs

-- ---- copies

-- the positions of a tuple: the subscripts of the element of a copy with its number
abbrev pub own_courses : ℕ → List ℕ → List Course
own_courses axis [] = []
own_courses axis (n ∷ ns) = Moving axis (pos 1) (pos 1) ∷ own_courses (axis + 1) ns

-- the dimensions of a copy over a space, and the element of the copy with the tuple's number
abbrev pub copy_dims : List ℕ → List Dim
copy_dims ns = map (λ n. record { lower = pos 1; upper = pos n }) ns

abbrev pub named_copy : List ℕ → ℕ → Named
named_copy ns row = record { row = row; dims = copy_dims ns; courses = own_courses 0 ns }

-- ---- what is read

-- an element of an array, where the subscripts are as many as its dimensions
abbrev pub named_element : List (List Dim) → ℕ → Option (List Course) → Option Named
named_element shapes a None = None
named_element shapes a (Some cs) =
    if length cs == length (shape_of shapes a) then Some (record { row = a; dims = shape_of shapes a; courses = cs }) else None

abbrev pub and_names : Option (List Named) → Option (List Named) → Option (List Named)
and_names (Some rs) (Some qs) = Some (rs ++ qs)
and_names rs qs = None

-- by an array expression, in the order of the text, where these are the courses of indices
module _ (shapes : List (List Dim)) (slots : List ℤ) (ns : List ℕ) (is : Option (List Course)) where
  abbrev mutual
    pub form_names : ArrayForm → Option (List Named)
    form_names (FlatForm f) = Some []
    form_names (SectionForm a subs) = option_map (λ r. r ∷ []) (named_element shapes a (subs_courses slots ns is subs))
    form_names (OperationForm o fs) = forms_names fs

    pub forms_names : Forms → Option (List Named)
    forms_names NoForm = Some []
    forms_names (AndForm f fs) = and_names (form_names f) (forms_names fs)

-- by masks and copies
abbrev pub when_names : List ℕ → List When → List Named
when_names ns whens = map (λ w. named_copy ns w.copy) whens

abbrev pub copy_names : List ℕ → List ℕ → List Named
copy_names ns rows = map (named_copy ns) rows

-- all that is read at a tuple: by the masks first, and then by the copies
abbrev pub all_names : List (List Dim) → List ℤ → List ℕ → Option (List Course) → List When → List ℕ → ArrayForm → Option (List Named)
all_names shapes slots ns is whens copies form =
    option_map (λ rs. (when_names ns whens ++ copy_names ns copies) ++ rs) (form_names shapes slots ns is form)
