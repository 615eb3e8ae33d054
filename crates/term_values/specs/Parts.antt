-- Of a promise.
-- The parts of an evaluation, each as a call answers it.
use Rattle.std.specs.Prelude.{ℕ, List, ℤ, Result, Ok}
use Rattle.op_tables.specs.declared.op.Op.{Op}
use Rattle.resolved_program.specs.declared.terms.SectionSubscript.{SectionSubscript as HeldSubscript}
use Rattle.resolved_program.specs.declared.terms.SectionSubscript.TheBlock.{Subscript as Subscript', Triplet as Triplet'}
use Rattle.resolved_program.specs.Resolved.{term}
use Rattle.array_meaning.specs.Terms.{Term, Terms, SectionSubscripts}
use Rattle.array_meaning.specs.Faults.{Cause, ◌>>=◌}
use Rattle.array_meaning.specs.State.{State, element, place_in}
use Rattle.array_meaning.specs.declared.sections.Selection.{Selection}
use Rattle.array_meaning.specs.declared.sections.Selection.TheVariants.{At, Along}
use Rattle.array_meaning.specs.Sections.{sequence_of, space_size}
use Rattle.array_meaning.specs.Elementals.{Elemental, Same, Selected, Operation, Elementals, operated, sections, values_at, values_over, reduction}
use Rattle.array_meaning.specs.Expressions.{value, values, elemental, elementals, selections}

-- the place of an element whose subscripts are to be evaluated
abbrev pub variable_place : List ℤ → State → ℕ → Terms → Result ℕ Cause
variable_place indices s a ts = values indices s ts >>= place_in s a

-- the value of an element, of an operator, and of a reduction
abbrev pub element_value : List ℤ → State → ℕ → Terms → Result ℤ Cause
element_value indices s a ts = values indices s ts >>= element s a

abbrev pub operation_value : List ℤ → State → Op → Terms → Result ℤ Cause
operation_value indices s o ts = values indices s ts >>= operated o

abbrev pub reduction_value : List ℤ → State → Op → Term → Result ℤ Cause
reduction_value indices s o t = elemental indices s t >>= reduction s o

-- a value that is the same at each tuple
abbrev pub same : Result ℤ Cause → Result Elemental Cause
same r = r >>= (λ v. Ok (Same v))

-- a section, and an operator, in an array expression
abbrev pub selected : List ℤ → State → ℕ → SectionSubscripts → Result Elemental Cause
selected indices s a subs = selections indices s subs >>= (λ ds. Ok (Selected a ds))

abbrev pub operation : List ℤ → State → Op → Terms → Result Elemental Cause
operation indices s o ts = elementals indices s ts >>= (λ xs. Ok (Operation o xs))

-- what one subscript of a section selects
abbrev pub selection : List ℤ → State → HeldSubscript → Result Selection Cause
selection indices s (Subscript' t) = value indices s (term t) >>= (λ i. Ok (At i))
selection indices s (Triplet' a b c) =
    sequence_of (value indices s (term a)) (value indices s (term b)) (value indices s (term c)) >>= (λ p. Ok (Along p))

-- ---- at tuples

-- the value of an operator at a tuple
abbrev pub operation_at : State → List ℤ → Op → Elementals → Result ℤ Cause
operation_at s tuple o xs = values_at s tuple xs >>= operated o

-- the values of an array expression over a space of these extents
abbrev pub elements_over : State → List ℕ → Elemental → Result (List ℤ) Cause
elements_over s ns x = space_size ns (sections x) >>= values_over s ns x
