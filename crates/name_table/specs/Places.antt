-- Of the claim.
-- The expressions of statements, each with what its place asks of its type and rank (Fortran 95, 7.4.1.4, 7.5.1.1, 7.5.3, 7.5.4,
-- 8.1.2, 8.1.4, 9.4.2 and 13.14).
use Rattle.std.specs.Prelude.{ℕ, Bool, true, false, ◌&&◌, ◌||◌, nat_eq, nat_le, is_some, List, [], ◌∷◌, ◌++◌, map}
use Rattle.std.specs.List.{list_all, flat_map}
use Rattle.syntax_tree.specs.Op.{Op}
use Rattle.syntax_tree.specs.Op.TheVariants as op
use Rattle.syntax_tree.specs.Expression.{Expression, Name, Element, Call, Parts, More, End, One}
use Rattle.syntax_tree.specs.Statement.{designator}
use Rattle.expression_rules.specs.Symbols.{SymbolTable, find, rank_of}
use Rattle.expression_rules.specs.Inner.{present, axis_expressions, item_expressions, format_expressions}
use Rattle.expression_rules.specs.declared.types.Context.{Context}
use Rattle.expression_rules.specs.declared.types.Context.TheVariants as context
use Rattle.expression_rules.specs.declared.types.DataType.TheVariants.{Integer, Logical}
use Rattle.expression_rules.specs.declared.types.TypeAndRank.{TypeAndRank}
use Rattle.expression_rules.specs.Types.{same_type, is_integer_scalar, is_logical_scalar, if_typed, type_and_rank}
use Rattle.statement_walk.specs.Head.{Head}
use Rattle.statement_walk.specs.Head as head

pub data Requirement : Type 0 where
  IntegerScalar : Requirement
  LogicalScalar : Requirement
  -- a mask, which is no scalar
  LogicalArray : Requirement
  -- the left side of an assignment: any variable; an array of the rank of this mask; an element of an array
  Variable : Requirement
  MaskedArray : Expression → Requirement
  ArrayElement : Requirement
  -- the right side after this left side: an integer that is a scalar or of its rank
  RightOf : Expression → Requirement
  -- the same of an assignment by itself, or a transformation of a whole array into that one
  AssignedTo : Expression → Requirement
  -- an item of a PRINT: an integer scalar, a whole array of integers or a section of one
  PrintItem : Requirement

pub record Place : Type 0 where
  pub expression : Expression
  pub requirement : Requirement

abbrev pub place : Requirement → Expression → Place
place r e = record { expression = e; requirement = r }

abbrev pub integer_scalars : List Expression → List Place
integer_scalars es = map (place IntegerScalar) es

-- the places of a statement
abbrev pub places : Head → List Place
places (head.Assignment left right) = place Variable (designator left) ∷ place (AssignedTo (designator left)) right ∷ []
places (head.MaskedAssignment mask left right) = place (MaskedArray mask) (designator left) ∷ place (RightOf (designator left)) right ∷ []
places (head.ForallAssignment axes left right) = place ArrayElement (designator left) ∷ place IntegerScalar right ∷ []
places (head.Condition cond) = place LogicalScalar cond ∷ []
places (head.Independent m) = []
places (head.Do mark axis) = integer_scalars (axis_expressions axis)
places (head.Where mask) = place LogicalArray mask ∷ []
places (head.Forall axes mask) = integer_scalars (flat_map axis_expressions axes) ++ map (place LogicalScalar) (present mask)
places head.Transfer = []
places (head.Print items) = map (place PrintItem) (flat_map item_expressions items)
places (head.Redistribute d) = integer_scalars (flat_map format_expressions d.formats)

-- where its expressions stand
abbrev pub context_of : Head → Context
context_of (head.Redistribute d) = context.Directive
context_of h = context.Statement

abbrev pub is_element : Expression → Bool
is_element (Element x ps) = true
is_element e = false

-- a name, or a name with subscripts after it
abbrev pub is_designator : Expression → Bool
is_designator (Name x) = true
is_designator e = is_element e

abbrev pub is_integer : TypeAndRank → Bool
is_integer s = same_type s.data_type Integer

abbrev pub is_mask : TypeAndRank → Bool
is_mask s = same_type s.data_type Logical && nat_le 1 s.rank

abbrev pub is_right_of : TypeAndRank → TypeAndRank → Bool
is_right_of left s = is_integer s && (nat_eq s.rank 0 || nat_eq s.rank left.rank)

abbrev pub is_masked_by : TypeAndRank → TypeAndRank → Bool
is_masked_by mask s = nat_le 1 s.rank && nat_eq s.rank mask.rank

abbrev pub is_right_side : Context → SymbolTable → Expression → Expression → Bool
is_right_side c t left e = if_typed (λ l. if_typed (is_right_of l) (type_and_rank c t e)) (type_and_rank c t left)

-- ---- transformations of whole arrays

-- the rank of an array that is named by itself; 0 of anything else
abbrev pub whole_rank : SymbolTable → Expression → ℕ
whole_rank t (Name x) = rank_of (find x t)
whole_rank t e = 0

-- CSHIFT, TRANSPOSE and SUM_PREFIX of a whole array, where it goes into a whole array of this rank (13.14.26 and 13.14.111; HPF 2.0, 7.4)
abbrev pub transforms_to : Context → SymbolTable → ℕ → Op → Parts → Bool
transforms_to c t rank op.CShift (More (One b) (More (One s) End)) =
    nat_le 1 rank && (nat_eq (whole_rank t b) rank && if_typed is_integer_scalar (type_and_rank c t s))
transforms_to c t rank op.Transpose (More (One b) End) = nat_eq rank 2 && nat_eq (whole_rank t b) 2
transforms_to c t rank op.SumPrefix (More (One b) End) = nat_eq rank 1 && nat_eq (whole_rank t b) 1
transforms_to c t rank o ps = false

abbrev pub is_transformed : Context → SymbolTable → ℕ → Expression → Bool
is_transformed c t rank (Call o ps) = transforms_to c t rank o ps
is_transformed c t rank e = false

-- the expression is what its place asks
abbrev pub meets : Context → SymbolTable → Requirement → Expression → Bool
meets c t IntegerScalar e = if_typed is_integer_scalar (type_and_rank c t e)
meets c t LogicalScalar e = if_typed is_logical_scalar (type_and_rank c t e)
meets c t LogicalArray e = if_typed is_mask (type_and_rank c t e)
meets c t Variable e = is_some (type_and_rank c t e)
meets c t (MaskedArray mask) e = if_typed (λ m. if_typed (is_masked_by m) (type_and_rank c t e)) (type_and_rank c t mask)
meets c t ArrayElement e = is_element e && if_typed is_integer_scalar (type_and_rank c t e)
meets c t (RightOf left) e = is_right_side c t left e
meets c t (AssignedTo left) e = is_right_side c t left e || is_transformed c t (whole_rank t left) e
meets c t PrintItem e = if_typed (λ s. is_integer s && (nat_eq s.rank 0 || is_designator e)) (type_and_rank c t e)

abbrev pub all_meet : Context → SymbolTable → List Place → Bool
all_meet c t ps = list_all (λ p. meets c t p.requirement p.expression) ps
