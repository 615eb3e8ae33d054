-- Of a promise.
-- Subscripts that are linear in an index, and sections as anchors have them.
use Rattle.std.specs.Prelude.{◌≡◌, ℕ, ℤ, pos, ◌+ℤ◌, ◌*ℤ◌, false, FitsSigned, ◌⊎◌, List, Option, Some, None, ⊤}
use Rattle.std.specs.Int.{w64}
use Rattle.op_tables.specs.declared.op.Op.TheVariants as op
use Rattle.nest_syntax.specs.LinearOperators.{is_linear_operator}
use Rattle.array_meaning.specs.Terms.{Term, Number, Scalar, Index, Apply, Terms, NoTerm, More}
use Rattle.array_meaning.specs.Expressions.{index_value}
use Rattle.array_meaning.specs.Forall.{without_index}
use Rattle.array_meaning.specs.Sections.{nth}
use Rattle.array_meaning.specs.declared.sections.Selection.{Selection}
use Rattle.array_meaning.specs.declared.sections.Selection.TheVariants.{At, Along}
use Rattle.code_meaning.specs.Anchors.{AnchorValue, LinearValue, TripletValue}

-- ---- expressions

-- without indices, and of numbers and scalars
abbrev mutual
  pub IsIndexFree : Term → Type 0
  IsIndexFree (Number v) = ⊤
  IsIndexFree (Scalar k) = ⊤
  IsIndexFree (Apply o ts) = AreIndexFree ts
  IsIndexFree t = ⊥

  pub AreIndexFree : Terms → Type 0
  AreIndexFree NoTerm = ⊤
  AreIndexFree (More t ts) = IsIndexFree t × AreIndexFree ts

-- linear by its form, in this index at most: numbers, scalars and the index under signs, sums, differences and products, of which one factor has no
-- index; and no index stands under another operator
abbrev pub IsLinearIn : Option ℕ → Term → Type 0
IsLinearIn k (Number v) = ⊤
IsLinearIn k (Scalar j) = ⊤
IsLinearIn k (Index j) = k ≡ Some j
IsLinearIn k (Apply op.Neg (More t NoTerm)) = IsLinearIn k t
IsLinearIn k (Apply op.Plus (More t NoTerm)) = IsLinearIn k t
IsLinearIn k (Apply op.Add (More t (More u NoTerm))) = IsLinearIn k t × IsLinearIn k u
IsLinearIn k (Apply op.Sub (More t (More u NoTerm))) = IsLinearIn k t × IsLinearIn k u
IsLinearIn k (Apply op.Mul (More t (More u NoTerm))) = (IsLinearIn None t × IsLinearIn k u) ⊎ (IsLinearIn k t × IsLinearIn None u)
IsLinearIn k (Apply o ts) = (is_linear_operator o ≡ false) × AreIndexFree ts
IsLinearIn k t = ⊥

-- a linear form at these values of the indices
abbrev pub linear_at : List ℤ → Option ℕ → (factor offset : ℤ) → ℤ
linear_at indices None factor offset = offset
linear_at indices (Some k) factor offset = (factor *ℤ index_value indices k) +ℤ offset

-- ---- sections

-- a section subscript of an anchor
abbrev pub section_value : Selection → AnchorValue
section_value (At i) = LinearValue (without_index i)
section_value (Along p) = TripletValue p.first p.step

-- its first value and its last one are numbers of 64 bits
abbrev pub HasEnds : Selection → Type 0
HasEnds (At i) = ⊤
HasEnds (Along p) = FitsSigned w64 p.first × FitsSigned w64 (nth p (pos p.count))
