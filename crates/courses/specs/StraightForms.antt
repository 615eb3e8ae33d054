-- Of a promise.
-- Subscripts of a FORALL or a nest that are linear in one index.
use Rattle.std.specs.Prelude.{◌≡◌, ℕ, ◌==◌, List, [], ◌∷◌, slice_index_or, ℤ, pos, ◌+ℤ◌, ◌-ℤ◌, ◌*ℤ◌, Option, Some, None, if◌then◌else◌}
use Rattle.op_tables.specs.declared.op.Op.{Op}
use Rattle.op_tables.specs.declared.op.Op.TheVariants as op
use Rattle.op_tables.specs.Operators.{wrapped, operator_value}
use Rattle.array_meaning.specs.Expressions.{index_value}
use Rattle.node_code.specs.Flat.{Flat, Int, Slot, Axis, Read, Operated, Flats, NoFlat, AndFlat}
use Rattle.code_meaning.specs.Flat.{slot}
use Rattle.courses.specs.Courses.{Course, Fixed, Moving, are_small, along}

-- a number, or `factor * index + offset`
pub data Straight : Type 0 where
  Constant : ℤ → Straight
  Sloped : (index : ℕ) → (factor offset : ℤ) → Straight

-- each index fits 64 bits
abbrev pub AllFit : List ℤ → Type 0
AllFit indices = (k : ℕ) → wrapped (index_value indices k) ≡ index_value indices k

-- the value at a tuple of indices, by numbers of 64 bits that wrap
abbrev pub straight_value : List ℤ → Straight → ℤ
straight_value indices (Constant v) = v
straight_value indices (Sloped k f o) = wrapped ((f *ℤ index_value indices k) +ℤ o)

abbrev pub constant : Option ℤ → Option Straight
constant None = None
constant (Some v) = Some (Constant v)

-- the numbers, where each is one
abbrev pub and_number : Straight → Option (List ℤ) → Option (List ℤ)
and_number (Constant v) (Some vs) = Some (v ∷ vs)
and_number x vs = None

abbrev pub numbers : List Straight → Option (List ℤ)
numbers [] = Some []
numbers (x ∷ xs) = and_number x (numbers xs)

-- a sign, a sum or a product, where one operand moves at least
abbrev pub sloped_by : Op → List Straight → Option Straight
sloped_by op.Plus (x ∷ []) = Some x
sloped_by op.Neg (Sloped k f o ∷ []) = Some (Sloped k (wrapped (pos 0 -ℤ f)) (wrapped (pos 0 -ℤ o)))
sloped_by op.Add (Sloped k f o ∷ Constant b ∷ []) = Some (Sloped k f (wrapped (o +ℤ b)))
sloped_by op.Add (Constant a ∷ Sloped k f o ∷ []) = Some (Sloped k f (wrapped (a +ℤ o)))
sloped_by op.Add (Sloped k f o ∷ Sloped j g p ∷ []) = if k == j then Some (Sloped k (wrapped (f +ℤ g)) (wrapped (o +ℤ p))) else None
sloped_by op.Sub (Sloped k f o ∷ Constant b ∷ []) = Some (Sloped k f (wrapped (o -ℤ b)))
sloped_by op.Sub (Constant a ∷ Sloped k f o ∷ []) = Some (Sloped k (wrapped (pos 0 -ℤ f)) (wrapped (a -ℤ o)))
sloped_by op.Sub (Sloped k f o ∷ Sloped j g p ∷ []) = if k == j then Some (Sloped k (wrapped (f -ℤ g)) (wrapped (o -ℤ p))) else None
sloped_by op.Mul (Sloped k f o ∷ Constant b ∷ []) = Some (Sloped k (wrapped (f *ℤ b)) (wrapped (o *ℤ b)))
sloped_by op.Mul (Constant a ∷ Sloped k f o ∷ []) = Some (Sloped k (wrapped (a *ℤ f)) (wrapped (a *ℤ o)))
sloped_by o xs = None

abbrev pub straight_by : Op → List Straight → Option (List ℤ) → Option Straight
straight_by o xs (Some vs) = constant (operator_value o vs)
straight_by o xs None = sloped_by o xs

abbrev pub and_straight : Option Straight → Option (List Straight) → Option (List Straight)
and_straight (Some x) (Some xs) = Some (x ∷ xs)
and_straight x xs = None

abbrev pub by_operands : Op → Option (List Straight) → Option Straight
by_operands o None = None
by_operands o (Some xs) = straight_by o xs (numbers xs)

-- an expression over slots and indices, where it is of this form. A subscript that names a read isn't
abbrev mutual
  pub straight : List ℤ → Flat → Option Straight
  straight slots (Int v) = constant (Some v)
  straight slots (Slot k) = constant (Some (slot slots k))
  straight slots (Axis k) = Some (Sloped k (pos 1) (pos 0))
  straight slots (Read k) = None
  straight slots (Operated o fs) = by_operands o (straights slots fs)

  pub straights : List ℤ → Flats → Option (List Straight)
  straights slots NoFlat = Some []
  straights slots (AndFlat f fs) = and_straight (straight slots f) (straights slots fs)

-- its course, by the courses of the indices over a space of these extents
abbrev pub sloped_course : List ℕ → ℤ → ℤ → Course → Option Course
sloped_course ns f o (Fixed i) = Some (Fixed (wrapped ((f *ℤ i) +ℤ o)))
sloped_course ns f o (Moving axis first step) =
    if are_small (slice_index_or ns axis 0) ((f *ℤ first) +ℤ o) (f *ℤ step)
    then Some (along axis (slice_index_or ns axis 0) ((f *ℤ first) +ℤ o) (f *ℤ step)) else None

abbrev pub straight_course : List ℕ → List Course → Straight → Option Course
straight_course ns cs (Constant v) = Some (Fixed v)
straight_course ns cs (Sloped k f o) = sloped_course ns f o (slice_index_or cs k (Fixed (pos 0)))

abbrev pub course_if : List ℕ → List Course → Option Straight → Option Course
course_if ns cs None = None
course_if ns cs (Some x) = straight_course ns cs x

abbrev pub flat_course : List ℤ → List ℕ → List Course → Flat → Option Course
flat_course slots ns cs f = course_if ns cs (straight slots f)
