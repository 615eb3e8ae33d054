-- Of the claim.
-- Operators and intrinsic procedures, and how tightly an operator binds (Fortran 95, 7.1.1 and 7.3).
use Rattle.std.specs.Prelude.{ℕ, ◌+◌, List, [], ◌∷◌, slice_get, Option, Some, None, codes}
use Rattle.op_tables.specs.declared.op.Op.{Op}
use Rattle.op_tables.specs.declared.op.Op.TheVariants as op
use Rattle.op_tables.specs.Words.{code_in, intrinsic_words}
use Rattle.syntax_tree.specs.declared.sign.Sign.{Sign}
use Rattle.syntax_tree.specs.declared.sign.Sign.TheVariants as sign
use Rattle.syntax_tree.specs.Lexeme.{Lexeme, Fixed, Unknown, sign_of}

-- the operator that a sign is between two operands
abbrev pub binary : Sign → Option Op
binary sign.Plus = Some op.Add
binary sign.Minus = Some op.Sub
binary sign.Star = Some op.Mul
binary sign.Slash = Some op.Div
binary sign.Power = Some op.Pow
binary sign.Eq = Some op.Eq
binary sign.Ne = Some op.Ne
binary sign.Lt = Some op.Lt
binary sign.Le = Some op.Le
binary sign.Gt = Some op.Gt
binary sign.Ge = Some op.Ge
binary sign.And = Some op.And
binary sign.Or = Some op.Or
binary sign.Eqv = Some op.Eqv
binary sign.Neqv = Some op.Neqv
binary s = None

-- the operator that a sign is before an operand
abbrev pub unary : Sign → Option Op
unary sign.Plus = Some op.Plus
unary sign.Minus = Some op.Neg
unary sign.Not = Some op.LogNot
unary s = None

abbrev pub binary_in : Option Sign → Option Op
binary_in None = None
binary_in (Some s) = binary s

abbrev pub binary_of : Lexeme → Option Op
binary_of l = binary_in (sign_of l)

abbrev pub unary_of : Lexeme → Option Op
unary_of (Fixed s) = unary s
unary_of l = None

-- what spells an operator; nothing spells an intrinsic procedure as one
abbrev pub operator_lexeme : Op → Lexeme
operator_lexeme op.Add = Fixed sign.Plus
operator_lexeme op.Sub = Fixed sign.Minus
operator_lexeme op.Mul = Fixed sign.Star
operator_lexeme op.Div = Fixed sign.Slash
operator_lexeme op.Pow = Fixed sign.Power
operator_lexeme op.Eq = Fixed sign.Eq
operator_lexeme op.Ne = Fixed sign.Ne
operator_lexeme op.Lt = Fixed sign.Lt
operator_lexeme op.Le = Fixed sign.Le
operator_lexeme op.Gt = Fixed sign.Gt
operator_lexeme op.Ge = Fixed sign.Ge
operator_lexeme op.And = Fixed sign.And
operator_lexeme op.Or = Fixed sign.Or
operator_lexeme op.Eqv = Fixed sign.Eqv
operator_lexeme op.Neqv = Fixed sign.Neqv
operator_lexeme op.Plus = Fixed sign.Plus
operator_lexeme op.Neg = Fixed sign.Minus
operator_lexeme op.LogNot = Fixed sign.Not
operator_lexeme o = Unknown

-- how tightly an operator binds, from 1; 0 for an intrinsic procedure
abbrev pub level : Op → ℕ
level op.Eqv = 1
level op.Neqv = 1
level op.Or = 2
level op.And = 3
level op.LogNot = 4
level op.Eq = 5
level op.Ne = 5
level op.Lt = 5
level op.Le = 5
level op.Gt = 5
level op.Ge = 5
level op.Add = 6
level op.Sub = 6
level op.Plus = 6
level op.Neg = 6
level op.Mul = 7
level op.Div = 7
level op.Pow = 8
level o = 0

-- how the operators of a level group
pub data Side : Type 0 where
  Left : Side
  Right : Side
  Neither : Side

abbrev pub side : Op → Side
side op.Pow = Right
side op.Eq = Neither
side op.Ne = Neither
side op.Lt = Neither
side op.Le = Neither
side op.Gt = Neither
side op.Ge = Neither
side o = Left

abbrev pub left_more : Side → ℕ
left_more Left = 0
left_more Right = 1
left_more Neither = 1

abbrev pub right_more : Side → ℕ
right_more Left = 1
right_more Right = 0
right_more Neither = 1

-- how tightly an operand has to bind at the left of an operator, and at its right
abbrev pub left_place : Op → ℕ
left_place o = level o + left_more (side o)

abbrev pub right_place : Op → ℕ
right_place o = level o + right_more (side o)

-- the intrinsic procedures, in the order of their words' codes; PROCESSORS_SHAPE is left out
abbrev pub intrinsics : List (Option Op)
intrinsics =
    Some op.Abs ∷ Some op.All ∷ Some op.Any ∷ Some op.Count ∷ Some op.CShift ∷ Some op.Dim ∷ Some op.BitAnd ∷
    Some op.BitXor ∷ Some op.BitOr ∷ Some op.LBound ∷ Some op.Max ∷ Some op.MaxVal ∷ Some op.Min ∷
    Some op.MinVal ∷ Some op.Mod ∷ Some op.Modulo ∷ Some op.BitNot ∷ Some op.Nodes ∷ None ∷ Some op.Product ∷
    Some op.Sign ∷ Some op.Size ∷ Some op.Sum ∷ Some op.SumPrefix ∷ Some op.Transpose ∷ Some op.UBound ∷ []

abbrev pub if_any : {A : Type 0} → Option (Option A) → Option A
if_any None = None
if_any (Some x) = x

abbrev pub procedure_at : Option ℕ → Option Op
procedure_at None = None
procedure_at (Some code) = if_any (slice_get intrinsics code)

-- the intrinsic procedure that a word names
abbrev pub intrinsic : List ℕ → Option Op
intrinsic word = procedure_at (code_in intrinsic_words word)

-- the word that names an intrinsic procedure; nothing names an operator
abbrev pub intrinsic_word : Op → List ℕ
intrinsic_word op.Abs = codes "ABS"
intrinsic_word op.All = codes "ALL"
intrinsic_word op.Any = codes "ANY"
intrinsic_word op.Count = codes "COUNT"
intrinsic_word op.CShift = codes "CSHIFT"
intrinsic_word op.Dim = codes "DIM"
intrinsic_word op.BitAnd = codes "IAND"
intrinsic_word op.BitXor = codes "IEOR"
intrinsic_word op.BitOr = codes "IOR"
intrinsic_word op.LBound = codes "LBOUND"
intrinsic_word op.Max = codes "MAX"
intrinsic_word op.MaxVal = codes "MAXVAL"
intrinsic_word op.Min = codes "MIN"
intrinsic_word op.MinVal = codes "MINVAL"
intrinsic_word op.Mod = codes "MOD"
intrinsic_word op.Modulo = codes "MODULO"
intrinsic_word op.BitNot = codes "NOT"
intrinsic_word op.Nodes = codes "NUMBER_OF_PROCESSORS"
intrinsic_word op.Product = codes "PRODUCT"
intrinsic_word op.Sign = codes "SIGN"
intrinsic_word op.Size = codes "SIZE"
intrinsic_word op.Sum = codes "SUM"
intrinsic_word op.SumPrefix = codes "SUM_PREFIX"
intrinsic_word op.Transpose = codes "TRANSPOSE"
intrinsic_word op.UBound = codes "UBOUND"
intrinsic_word o = []
