-- Of a promise.
-- Subscripts that move along one axis of a space each.
use Rattle.std.specs.Prelude.{ℕ, ◌+◌, ◌-◌, nat_le, List, [], ◌∷◌, slice_index_or, map, ℤ, pos, ◌+ℤ◌, ◌*ℤ◌, Bool, true, ◌&&◌, ◌||◌, if◌then◌else◌}
use Rattle.op_tables.specs.Operators.{is_zero}
use Rattle.array_meaning.specs.declared.sections.Selection.{Selection}
use Rattle.array_meaning.specs.declared.sections.Selection.TheVariants.{At, Along}
use Rattle.array_meaning.specs.Sections.{is_at_most}

-- the same at each tuple, or by the tuple's place on an axis, from 0: the first one and a step more for each place
pub data Course : Type 0 where
  Fixed : ℤ → Course
  Moving : (axis : ℕ) → (first step : ℤ) → Course

-- the subscript at the places of a tuple
abbrev pub course_at : List ℕ → Course → ℤ
course_at places (Fixed i) = i
course_at places (Moving axis first step) = first +ℤ (step *ℤ pos (slice_index_or places axis 0))

abbrev pub courses_at : List ℕ → List Course → List ℤ
courses_at places cs = map (course_at places) cs

-- below 2^62 in magnitude, so that differences fit 64 bits
abbrev pub is_small : ℤ → Bool
is_small z = is_at_most 4611686018427387903 z

-- so are the first and the last on an axis of this extent, and so all between
abbrev pub are_small : ℕ → ℤ → ℤ → Bool
are_small extent first step = is_small first && is_small (first +ℤ (step *ℤ pos (extent - 1)))

-- on an axis of one place, and by a step of 0, nothing moves
abbrev pub along : ℕ → ℕ → ℤ → ℤ → Course
along axis extent first step = if nat_le extent 1 || is_zero step then Fixed first else Moving axis first step

-- ---- sections

-- the courses of a section's subscripts over a space, of whose axes the first that is left has this number
abbrev pub section_courses : ℕ → List ℕ → List Selection → List Course
section_courses axis ns [] = []
section_courses axis ns (At i ∷ ds) = Fixed i ∷ section_courses axis ns ds
section_courses axis [] (Along p ∷ ds) = Fixed p.first ∷ section_courses axis [] ds
section_courses axis (n ∷ ns) (Along p ∷ ds) = along axis n p.first p.step ∷ section_courses (axis + 1) ns ds

-- none of its subscripts wraps
abbrev pub is_section_small : List ℕ → List Selection → Bool
is_section_small ns [] = true
is_section_small ns (At i ∷ ds) = is_small i && is_section_small ns ds
is_section_small [] (Along p ∷ ds) = is_small p.first && is_section_small [] ds
is_section_small (n ∷ ns) (Along p ∷ ds) = are_small n p.first p.step && is_section_small ns ds
