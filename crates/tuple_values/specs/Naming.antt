-- Of private clauses.
-- How references are put together; private contracts alone cite this.
use Rattle.std.specs.Prelude.{ℕ, Bool, true, false, List, [], ◌∷◌, ◌++◌, ℤ, Option, Some, None, option_map}
use Rattle.expression_rules.specs.declared.dims.Dim.{Dim}
use Rattle.node_code.specs.Forms.{ArrayForm, Forms, Sub}
use Rattle.node_code.specs.Parallel.{When}
use Rattle.courses.specs.Courses.{Course}
use Rattle.courses.specs.References.{Named, all_names, form_names, forms_names, named_copy, named_element, selected_courses, subs_courses}
use Rattle.courses.specs.TurnedNames.{all_turned_names, turned_names}
use Rattle.course_forms.specs.Views.{courses_of, named_of}
use Rattle.tuple_values.specs.declared.naming.Indices.{Indices}
use Rattle.tuple_values.specs.declared.naming.Naming.{Naming}
use Rattle.tuple_values.specs.declared.naming.Left.{Left}
use Rattle.tuple_values.specs.Statements.{Target, Nowhere, InCopy, InSection, ByIndices}

abbrev pub indices_of : Indices → Option (List Course)
indices_of is = option_map (λ cs. courses_of cs.items) is.courses

abbrev pub left_of : Left → Option Named
left_of l = option_map named_of l.reference

-- others before these, where these are known
abbrev pub before : List Named → Option (List Named) → Option (List Named)
before rs o = option_map (λ qs. rs ++ qs) o

-- all that is read: a reference for each read, in order, or two where what is evaluated goes round a dimension
abbrev pub names_by : Bool → List (List Dim) → List ℤ → List ℕ → Option (List Course) → List When → List ℕ → ArrayForm → Option (List Named)
names_by true = all_names
names_by false = all_turned_names

-- what is assigned, where something is; None where it has no course
abbrev pub left_name : List (List Dim) → List ℤ → List ℕ → Option (List Course) → Target → Option (Option Named)
left_name shapes slots ns is Nowhere = Some None
left_name shapes slots ns is (InCopy row) = Some (Some (named_copy ns row))
left_name shapes slots ns is (InSection a ds) = option_map Some (named_element shapes a (selected_courses ns ds))
left_name shapes slots ns is (ByIndices a subs) = option_map Some (named_element shapes a (subs_courses slots ns is subs))

-- by the dimensions, the slots, the extents and the courses of the indices that are at hand
abbrev pub courses_here : Naming → List Sub → Option (List Course)
courses_here n subs = subs_courses n.slots.now n.extents.now (indices_of n.indices.now) subs

abbrev pub element_here : Naming → ℕ → List Sub → Option Named
element_here n a subs = named_element n.shapes.now a (courses_here n subs)

abbrev pub names_here : Naming → ArrayForm → Option (List Named)
names_here n f = form_names n.shapes.now n.slots.now n.extents.now (indices_of n.indices.now) f

abbrev pub all_names_here : Naming → Forms → Option (List Named)
all_names_here n fs = forms_names n.shapes.now n.slots.now n.extents.now (indices_of n.indices.now) fs

abbrev pub left_here : Naming → Target → Option (Option Named)
left_here n target = left_name n.shapes.now n.slots.now n.extents.now (indices_of n.indices.now) target

-- both references of what is evaluated, where that goes round a dimension
abbrev pub both_listed : Option (Named × Named) → Option (List Named)
both_listed o = option_map (λ p. p.0 ∷ p.1 ∷ []) o

abbrev pub turned_by_indices : Naming → Option (List Course) → ArrayForm → Option (Named × Named)
turned_by_indices n None f = None
turned_by_indices n (Some is) f = turned_names n.shapes.now n.slots.now n.extents.now is f

abbrev pub both_here : Naming → ArrayForm → Option (List Named)
both_here n f = both_listed (turned_by_indices n (indices_of n.indices.now) f)
