-- Of the claim.
-- What declarations say of one name after the other, and the symbol table after them (Fortran 95, 5.1, 5.1.2.5 and 5.2.9; HPF 2.0,
-- 3.6 and 3.7).
use Rattle.std.specs.Prelude.{ℕ, ◌+◌, Bool, true, false, ◌||◌, nat_lt, unsigned_abs, List, [], ◌∷◌, ◌++◌, map, length, ℤ, pos, Option, Some, None, if◌then◌else◌}
use Rattle.std.specs.List.{list_any, flat_map}
use Rattle.hpf_base.specs.declared.limits.TheConstants.{MAX_BOUND, MAX_ELEMENTS, MAX_RANK}
use Rattle.declarations.specs.declared.limits.TheConstants.{MAX_TOTAL_ELEMENTS}
use Rattle.syntax_tree.specs.Expression.{Expression}
use Rattle.syntax_tree.specs.Directive.{Bound, Entity, Processors, Template as TemplateDirective}
use Rattle.syntax_tree.specs.MainProgram.{NamedConstant, Declared, Integer, Parameter, Directed, Declaration}
use Rattle.expression_rules.specs.Dims.{elements}
use Rattle.expression_rules.specs.Symbols.{SymbolTable, find, added, changed, satisfies, is_uninitialized, all_elements}
use Rattle.expression_rules.specs.declared.dims.Dim.{Dim}
use Rattle.expression_rules.specs.declared.symbols.Symbol.{Symbol}
use Rattle.expression_rules.specs.declared.symbols.Symbol.TheVariants.{Uninitialized, Initialized, Constant, Array, Template, Arrangement}
use Rattle.expression_rules.specs.declared.evaluated.Evaluated.{Evaluated}
use Rattle.expression_rules.specs.declared.evaluated.Evaluated.TheVariants.{Known}
use Rattle.expression_rules.specs.Constants.{value}
use Rattle.expression_rules.specs.Inner.{present}

-- what a declaration says of one name
pub data Item : Type 0 where
  -- the bounds after DIMENSION, which name nothing by themselves
  DimensionAttribute : List Bound → Item
  -- an entity of INTEGER: with PARAMETER or without, and its bounds, its own or those after DIMENSION
  TypedEntity : Bool → Option (List Bound) → Entity → Item
  -- a name of a PARAMETER statement
  Definition : NamedConstant → Item
  -- a template and a processor arrangement of a directive
  TemplateEntity : Entity → Item
  ArrangementEntity : Entity → Item

abbrev pub own_or : {A : Type 0} → Option A → Option A → Option A
own_or None b = b
own_or (Some a) b = Some a

abbrev pub items_of : Declared → List Item
items_of (Integer d) = map DimensionAttribute (present d.bounds) ++ map (λ e. TypedEntity d.constant (own_or e.bounds d.bounds) e) d.entities
items_of (Parameter cs) = map Definition cs
items_of (Directed (TemplateDirective es)) = map TemplateEntity es
items_of (Directed (Processors es)) = map ArrangementEntity es
items_of d = []

-- with the number of its line
pub record PlacedItem : Type 0 where
  pub line : ℕ
  pub what : Item

abbrev pub items : List Declaration → List PlacedItem
items ds = flat_map (λ d. map (λ i. record { line = d.line; what = i }) (items_of d.what)) ds

abbrev pub bounds_of : Option (List Bound) → List Bound
bounds_of None = []
bounds_of (Some bs) = bs

-- the value of a constant expression of a declaration, where it is known
abbrev pub if_known : Evaluated ℤ → Option ℤ
if_known (Known n) = Some n
if_known v = None

abbrev pub number : SymbolTable → Expression → Option ℤ
number t e = if_known (value None t e)

-- the number of an expression that may be left out
abbrev pub number_or : ℤ → SymbolTable → Option Expression → Option ℤ
number_or n t None = Some n
number_or n t (Some e) = number t e

abbrev pub lower_of : SymbolTable → Bound → Option ℤ
lower_of t b = number_or (pos 1) t b.lower

-- the bounds of dimensions, where all are known
abbrev pub with_dim : Option ℤ → Option ℤ → Option (List Dim) → Option (List Dim)
with_dim (Some l) (Some u) (Some ds) = Some (record { lower = l; upper = u } ∷ ds)
with_dim l u ds = None

abbrev pub dims : SymbolTable → List Bound → Option (List Dim)
dims t [] = Some []
dims t (b ∷ bs) = with_dim (lower_of t b) (number t b.upper) (dims t bs)

-- the initial value of a constant, or of an array's elements, which is 0 where none is given
abbrev pub start_of : SymbolTable → Option Expression → Option ℤ
start_of t e = number_or (pos 0) t e

abbrev pub is_too_far : Option ℤ → Bool
is_too_far None = false
is_too_far (Some n) = nat_lt MAX_BOUND (unsigned_abs n)

abbrev pub is_bound_too_far : SymbolTable → Bound → Bool
is_bound_too_far t b = is_too_far (lower_of t b) || is_too_far (number t b.upper)

-- an array of known dimensions has too many elements, by itself or with those of the arrays before it
abbrev pub is_too_large : ℕ → Option (List Dim) → Bool
is_too_large before None = false
is_too_large before (Some ds) = nat_lt MAX_ELEMENTS (elements ds) || nat_lt MAX_TOTAL_ELEMENTS (before + elements ds)

-- the rank, a bound or the number of elements of an array is past its limit
abbrev pub is_past_limits : SymbolTable → List Bound → Bool
is_past_limits t bs = nat_lt MAX_RANK (length bs) || list_any (is_bound_too_far t) bs || is_too_large (all_elements t) (dims t bs)

-- the dimensions of an array, where all are known and it is within the limits
abbrev pub known_dims : SymbolTable → List Bound → Option (List Dim)
known_dims t bs = if is_past_limits t bs then None else dims t bs

-- what an entity of INTEGER stands for
abbrev pub symbol_of : SymbolTable → Bool → Option (List Bound) → Option Expression → Symbol
symbol_of t true bs e = Constant (start_of t e)
symbol_of t false None None = Uninitialized
symbol_of t false None (Some e) = Initialized (number t e)
symbol_of t false (Some bs) e = Array (length bs) (known_dims t bs) (start_of t e)

abbrev pub rank_in_text : Entity → ℕ
rank_in_text e = length (bounds_of e.bounds)

-- the symbol table after an item: a name that is declared twice keeps its first meaning
abbrev pub after : SymbolTable → Item → SymbolTable
after t (DimensionAttribute bs) = t
after t (TypedEntity constant bs e) = added t e.name (symbol_of t constant bs e.start)
after t (Definition c) = if satisfies is_uninitialized (find c.name t) then changed c.name (Constant (number t c.value)) t else t
after t (TemplateEntity e) = added t e.name (Template (rank_in_text e))
after t (ArrangementEntity e) = added t e.name (Arrangement (rank_in_text e))

abbrev pub after_all : SymbolTable → List PlacedItem → SymbolTable
after_all t [] = t
after_all t (i ∷ is) = after_all (after t i.what) is

-- the names that a program declares
abbrev pub symbol_table : List Declaration → SymbolTable
symbol_table ds = after_all [] (items ds)
