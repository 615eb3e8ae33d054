-- Of the claim.
-- The type and the rank of an expression (Fortran 95, 7.1.4, 7.1.5 and 13.14).
use Rattle.std.specs.Prelude.{ℕ, zero, suc, Bool, true, false, ◌&&◌, ◌||◌, not, nat_eq, nat_le, is_some, List, [], ◌∷◌, ℤ, pos, Option, Some, None, if◌then◌else◌}
use Rattle.std.specs.List.{list_all}
use Rattle.syntax_tree.specs.Op.{Op}
use Rattle.syntax_tree.specs.Op.TheVariants as op
use Rattle.syntax_tree.specs.Expression.{Expression, Number, Truth, Name as Alone, Element, Call, Unary, Binary, Closed, Part, One, Range, Glued, Parts, End, More, Maybe, Absent, Present}
use Rattle.expression_rules.specs.declared.types.Context.{Context}
use Rattle.expression_rules.specs.declared.types.Context.TheVariants.{Statement, Directive}
use Rattle.expression_rules.specs.declared.types.DataType.{DataType}
use Rattle.expression_rules.specs.declared.types.DataType.TheVariants.{Integer, Logical}
use Rattle.expression_rules.specs.declared.types.TypeAndRank.{TypeAndRank}
use Rattle.syntax_tree.specs.Arguments.{takes, is_reduction, is_inquiry, is_processor_count}
use Rattle.expression_rules.specs.Symbols.{SymbolTable, rank_of, find, satisfies, is_array}
use Rattle.expression_rules.specs.declared.evaluated.Evaluated.{Evaluated}
use Rattle.expression_rules.specs.declared.evaluated.Evaluated.TheVariants.{Known}
use Rattle.expression_rules.specs.Constants.{named_first, values_after}

abbrev pub is_directive : Context → Bool
is_directive Directive = true
is_directive Statement = false

abbrev pub same_type : DataType → DataType → Bool
same_type Integer Integer = true
same_type Logical Logical = true
same_type a b = false

-- an integer, and a logical value, of a rank
abbrev pub integer : ℕ → TypeAndRank
integer r = record { data_type = Integer; rank = r }

abbrev pub logical : ℕ → TypeAndRank
logical r = record { data_type = Logical; rank = r }

abbrev pub is_integer_scalar : TypeAndRank → Bool
is_integer_scalar s = same_type s.data_type Integer && nat_eq s.rank 0

abbrev pub is_logical_scalar : TypeAndRank → Bool
is_logical_scalar s = same_type s.data_type Logical && nat_eq s.rank 0

-- a test of what an expression is, which fails where it breaks a rule itself
abbrev pub if_typed : (TypeAndRank → Bool) → Option TypeAndRank → Bool
if_typed test None = false
if_typed test (Some s) = test s

abbrev pub are_integer_scalars : List (Option TypeAndRank) → Bool
are_integer_scalars ss = list_all (if_typed is_integer_scalar) ss

-- the type that the operands of an operator or procedure must have, and that of its value
abbrev pub operand_type : Op → DataType
operand_type op.LogNot = Logical
operand_type op.And = Logical
operand_type op.Or = Logical
operand_type op.Eqv = Logical
operand_type op.Neqv = Logical
operand_type op.Count = Logical
operand_type op.Any = Logical
operand_type op.All = Logical
operand_type o = Integer

abbrev pub result_type : Op → DataType
result_type op.Eq = Logical
result_type op.Ne = Logical
result_type op.Lt = Logical
result_type op.Le = Logical
result_type op.Gt = Logical
result_type op.Ge = Logical
result_type op.Count = Integer
result_type o = operand_type o

-- the rank of two operands together: a scalar goes with any array, and two arrays must have one rank
abbrev pub common_rank : ℕ → ℕ → Option ℕ
common_rank zero r = Some r
common_rank (suc q) zero = Some (suc q)
common_rank (suc q) (suc r) = if nat_eq q r then Some (suc q) else None

abbrev pub common : Option ℕ → Option ℕ → Option ℕ
common None r = None
common (Some q) None = None
common (Some q) (Some r) = common_rank q r

-- the rank of an expression, if it is of the type
abbrev pub rank_in : DataType → Option TypeAndRank → Option ℕ
rank_in k None = None
rank_in k (Some s) = if same_type k s.data_type then Some s.rank else None

-- the rank of operands together, if all are of the type
abbrev pub conforming : DataType → List (Option TypeAndRank) → Option ℕ
conforming k [] = Some 0
conforming k (s ∷ ss) = common (rank_in k s) (conforming k ss)

abbrev pub of_type : DataType → Option ℕ → Option TypeAndRank
of_type k None = None
of_type k (Some r) = Some (record { data_type = k; rank = r })

-- the value of an operator, element by element
abbrev pub elemental : Op → List (Option TypeAndRank) → Option TypeAndRank
elemental o ss = of_type (result_type o) (conforming (operand_type o) ss)

-- the value of a reduction, of an array
abbrev pub reduction_of : Op → Option ℕ → Option TypeAndRank
reduction_of o None = None
reduction_of o (Some zero) = None
reduction_of o (Some (suc r)) = Some (record { data_type = result_type o; rank = 0 })

abbrev pub reduction : Op → List (Option TypeAndRank) → Option TypeAndRank
reduction o ss = reduction_of o (conforming (operand_type o) ss)

abbrev pub integer_scalar_if : Bool → Option TypeAndRank
integer_scalar_if true = Some (integer 0)
integer_scalar_if false = None

-- each is the number of one of so many dimensions
abbrev pub is_dimension : ℕ → ℤ → Bool
is_dimension rank (pos (suc d)) = nat_le (suc d) rank
is_dimension rank d = false

abbrev pub are_dimensions : ℕ → Evaluated (List ℤ) → Bool
are_dimensions rank (Known ds) = list_all (is_dimension rank) ds
are_dimensions rank f = false

-- SIZE, LBOUND or UBOUND of an array's name, with the constant number of one of its dimensions
abbrev pub is_of_array : SymbolTable → Parts → Bool
is_of_array t ps = satisfies is_array (named_first t ps) && are_dimensions (rank_of (named_first t ps)) (values_after None t ps)

-- the first argument of an inquiry breaks no rule itself, and those after it are integer scalars
abbrev pub is_inquired : Bool → Option TypeAndRank → Bool
is_inquired true s = is_some s
is_inquired false s = if_typed is_integer_scalar s

abbrev pub inquired_from : Bool → List (Option TypeAndRank) → Bool
inquired_from first [] = true
inquired_from first (s ∷ ss) = is_inquired first s && inquired_from false ss

abbrev pub are_inquired : List (Option TypeAndRank) → Bool
are_inquired ss = inquired_from true ss

-- how many parts a list has, and how many triplets
abbrev pub count_of : Parts → ℕ
count_of End = 0
count_of (More p ps) = suc (count_of ps)

abbrev pub is_triplet : Part → Bool
is_triplet (One e) = false
is_triplet p = true

abbrev pub triplets : Parts → ℕ
triplets End = 0
triplets (More p ps) = if is_triplet p then suc (triplets ps) else triplets ps

-- an intrinsic procedure; in a directive what SIZE and its kin name is left to the rules of mapping
abbrev pub called_type : Context → SymbolTable → Op → Parts → List (Option TypeAndRank) → Option TypeAndRank
called_type context t o ps ss =
    if not (takes o (count_of ps)) then None
    else (if is_processor_count o then integer_scalar_if (is_directive context && are_integer_scalars ss)
    else (if is_inquiry o then integer_scalar_if (are_inquired ss && (is_directive context || is_of_array t ps))
    else (if is_reduction o then reduction o ss else elemental o ss)))

-- an element or a section of an array of a rank, with so many subscripts, of which some are triplets: its rank is their
-- number
abbrev pub subscripted : ℕ → ℕ → Bool → ℕ → Option TypeAndRank
subscripted zero count good triplets = None
subscripted (suc rank) count good triplets = if nat_eq count (suc rank) && good then Some (integer triplets) else None

-- what an expression is; None where a part of it isn't what its place asks
abbrev mutual
  pub type_and_rank : Context → SymbolTable → Expression → Option TypeAndRank
  type_and_rank d t (Number n) = Some (integer 0)
  type_and_rank d t (Truth b) = Some (logical 0)
  type_and_rank d t (Alone x) = Some (integer (rank_of (find x t)))
  type_and_rank d t (Element x ps) = subscripted (rank_of (find x t)) (count_of ps) (are_subscripts d t ps) (triplets ps)
  type_and_rank d t (Closed a) = type_and_rank d t a
  type_and_rank d t (Unary o a) = elemental o (type_and_rank d t a ∷ [])
  type_and_rank d t (Binary o a b) = elemental o (type_and_rank d t a ∷ type_and_rank d t b ∷ [])
  type_and_rank d t (Call o ps) = called_type d t o ps (types_and_ranks d t ps)

  pub types_and_ranks : Context → SymbolTable → Parts → List (Option TypeAndRank)
  types_and_ranks d t End = []
  types_and_ranks d t (More (One e) ps) = type_and_rank d t e ∷ types_and_ranks d t ps
  types_and_ranks d t (More p ps) = None ∷ types_and_ranks d t ps

  -- a subscript, and each part of a triplet, is an integer scalar
  pub are_subscripts : Context → SymbolTable → Parts → Bool
  are_subscripts d t End = true
  are_subscripts d t (More p ps) = is_subscript d t p && are_subscripts d t ps

  pub is_subscript : Context → SymbolTable → Part → Bool
  is_subscript d t (One e) = if_typed is_integer_scalar (type_and_rank d t e)
  is_subscript d t (Range a b c) = is_triplet_part d t a && is_triplet_part d t b && is_triplet_part d t c
  is_subscript d t (Glued a c) = is_triplet_part d t a && if_typed is_integer_scalar (type_and_rank d t c)

  -- a part of a triplet
  pub is_triplet_part : Context → SymbolTable → Maybe → Bool
  is_triplet_part d t Absent = true
  is_triplet_part d t (Present e) = if_typed is_integer_scalar (type_and_rank d t e)
