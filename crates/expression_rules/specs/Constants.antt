-- Of the claim.
-- Constant expressions (Fortran 95, 7.1.6.1), and the expressions of directives that must be constant (HPF 2.0, 3).
use Rattle.std.specs.Prelude.{ℕ, suc, nat_eq, List, [], ◌∷◌, length, slice_get, ℤ, pos, Option, Some, None, if◌then◌else◌}
use Rattle.hpf_base.specs.ElementOrder.{product}
use Rattle.syntax_tree.specs.Op.{Op}
use Rattle.syntax_tree.specs.Op.TheVariants as op
use Rattle.syntax_tree.specs.Expression.{Expression, Number, Truth, Name as Alone, Element, Call, Unary, Binary, Closed, Part, One, Parts, End, More}
use Rattle.expression_rules.specs.declared.evaluated.Evaluated.{Evaluated}
use Rattle.expression_rules.specs.declared.evaluated.Evaluated.TheVariants.{Invalid, Unknown, Known}
use Rattle.syntax_tree.specs.Arguments.{takes, is_transformational, is_inquiry, is_processor_count}
use Rattle.syntax_tree.specs.OperatorValues.{truth, operator_value}
use Rattle.expression_rules.specs.Dims.{extent, elements}
use Rattle.expression_rules.specs.Symbols.{SymbolTable, find}
use Rattle.expression_rules.specs.declared.dims.Dim.{Dim}
use Rattle.expression_rules.specs.declared.symbols.Symbol.{Symbol}
use Rattle.expression_rules.specs.declared.symbols.Symbol.TheVariants.{Constant, Array}

-- a value before others: Invalid where one is, else Unknown where one is
abbrev pub with_more : {A : Type 0} → Evaluated A → Evaluated (List A) → Evaluated (List A)
with_more Invalid fs = Invalid
with_more Unknown Invalid = Invalid
with_more Unknown fs = Unknown
with_more (Known a) (Known as') = Known (a ∷ as')
with_more (Known a) Invalid = Invalid
with_more (Known a) Unknown = Unknown

abbrev pub known_of : {A : Type 0} → Option A → Evaluated A
known_of None = Unknown
known_of (Some a) = Known a

-- a division by zero has no value
abbrev pub unless_zero : Option ℤ → Evaluated ℤ
unless_zero None = Invalid
unless_zero (Some n) = Known n

-- an operator with the values of its operands
abbrev pub operated : Op → Evaluated (List ℤ) → Evaluated ℤ
operated o (Known ns) = unless_zero (operator_value o ns)
operated o Unknown = Unknown
operated o Invalid = Invalid

-- an elemental procedure with those of its arguments; another rule asks for their number
abbrev pub elemental_value : Op → Evaluated (List ℤ) → Evaluated ℤ
elemental_value o (Known ns) = if takes o (length ns) then operated o (Known ns) else Unknown
elemental_value o Unknown = Unknown
elemental_value o Invalid = Invalid

-- where an expression stands: outside directives, or in one, where the processor grid has these extents
abbrev pub Site : Type 0
Site = Option (List ℕ)

-- a dimension that isn't there: outside directives it breaks a rule of ranks
abbrev pub no_dimension : Site → Evaluated ℤ
no_dimension None = Unknown
no_dimension (Some grid) = Invalid

-- what an item gives, if there is one
abbrev pub item_or : {A : Type 0} → Evaluated ℤ → (A → ℤ) → Option A → Evaluated ℤ
item_or other f None = other
item_or other f (Some a) = Known (f a)

-- an item, numbered from 1
abbrev pub numbered : {A : Type 0} → List A → ℤ → Option A
numbered as' (pos (suc d)) = slice_get as' d
numbered as' d = None

-- what a dimension gives, numbered from 1
abbrev pub at_dimension : {A : Type 0} → Site → (A → ℤ) → List A → ℤ → Evaluated ℤ
at_dimension p f dims d = item_or (no_dimension p) f (numbered dims d)

-- the bounds that LBOUND and UBOUND give: an empty dimension has the bounds 1 and 0 (Fortran 95, 13.14.53)
abbrev pub lower_bound : Dim → ℤ
lower_bound d = if nat_eq (extent d) 0 then pos 1 else d.lower

abbrev pub upper_bound : Dim → ℤ
upper_bound d = if nat_eq (extent d) 0 then pos 0 else d.upper

abbrev pub bound_of : Op → Dim → ℤ
bound_of op.LBound d = lower_bound d
bound_of op.UBound d = upper_bound d
bound_of o d = pos (extent d)

-- SIZE, LBOUND and UBOUND of dimensions, with the arguments after the array
abbrev pub inquired : Site → Op → List Dim → List ℤ → Evaluated ℤ
inquired p op.Size ds [] = Known (pos (elements ds))
inquired p o ds (d ∷ []) = at_dimension p (bound_of o) ds d
inquired p o ds ns = Unknown

abbrev pub of_dimensions : Site → Op → Option (List Dim) → Evaluated (List ℤ) → Evaluated ℤ
of_dimensions p o ds Invalid = Invalid
of_dimensions p o ds Unknown = Unknown
of_dimensions p o None (Known ns) = Unknown
of_dimensions p o (Some ds) (Known ns) = inquired p o ds ns

-- SIZE, LBOUND and UBOUND of what a name stands for: only an array has dimensions
abbrev pub of_array : Site → Op → Option Symbol → Evaluated (List ℤ) → Evaluated ℤ
of_array p o (Some (Array r ds n)) ns = of_dimensions p o ds ns
of_array p o s ns = Invalid

-- NUMBER_OF_PROCESSORS (HPF 2.0, 7.1)
abbrev pub processor_count_in : List ℕ → Evaluated (List ℤ) → Evaluated ℤ
processor_count_in grid (Known []) = Known (pos (product grid))
processor_count_in grid (Known (d ∷ [])) = at_dimension (Some grid) (λ n. pos n) grid d
processor_count_in grid (Known ns) = Unknown
processor_count_in grid Unknown = Unknown
processor_count_in grid Invalid = Invalid

abbrev pub processor_count : Site → Evaluated (List ℤ) → Evaluated ℤ
processor_count None ns = Invalid
processor_count (Some grid) ns = processor_count_in grid ns

-- an intrinsic procedure, with what its first argument names, all of its arguments, and those after the first
abbrev pub called_value : Site → Op → Option Symbol → Evaluated (List ℤ) → Evaluated (List ℤ) → Evaluated ℤ
called_value p o s ns after =
    if is_inquiry o then of_array p o s after
    else (if is_processor_count o then processor_count p ns
    else (if is_transformational o then Invalid else elemental_value o ns))

-- a name by itself: only a named constant has a value
abbrev pub value_of_symbol : Option Symbol → Evaluated ℤ
value_of_symbol (Some (Constant n)) = known_of n
value_of_symbol s = Invalid

-- what the first argument of an inquiry stands for, where it is a name by itself
abbrev pub named_first : SymbolTable → Parts → Option Symbol
named_first t (More (One (Alone x)) ps) = find x t
named_first t ps = None

-- the value of an expression that must be constant, over the names that are declared. Kinds of operands don't matter: a logical
-- value is its number
abbrev mutual
  pub value : Site → SymbolTable → Expression → Evaluated ℤ
  value p t (Number n) = Known n
  value p t (Truth b) = Known (truth b)
  value p t (Alone x) = value_of_symbol (find x t)
  value p t (Element x ps) = Invalid
  value p t (Closed a) = value p t a
  value p t (Unary o a) = operated o (with_more (value p t a) (Known []))
  value p t (Binary o a b) = operated o (with_more (value p t a) (with_more (value p t b) (Known [])))
  value p t (Call o ps) = called_value p o (named_first t ps) (values p t ps) (values_after p t ps)

  pub values : Site → SymbolTable → Parts → Evaluated (List ℤ)
  values p t End = Known []
  values p t (More q ps) = with_more (part_value p t q) (values p t ps)

  pub values_after : Site → SymbolTable → Parts → Evaluated (List ℤ)
  values_after p t End = Known []
  values_after p t (More q ps) = values p t ps

  pub part_value : Site → SymbolTable → Part → Evaluated ℤ
  part_value p t (One e) = value p t e
  part_value p t q = Invalid
