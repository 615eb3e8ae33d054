-- Of the claim.
-- The symbol table: the declared names, in the order of their declarations, each with what it stands for (Fortran 95, 5;
-- HPF 2.0, 3.6 and 3.7).
use Rattle.std.specs.Prelude.{ℕ, ◌+◌, Bool, true, false, is_some, bytes_eq, List, [], ◌∷◌, ◌++◌, map, Option, Some, None, if◌then◌else◌}
use Rattle.std.specs.List.{list_any}
use Rattle.std.specs.Map.{lookup}
use Rattle.indexmap.specs.IndexMap.{insert_entry}
use Rattle.expression_rules.specs.Dims.{elements}
use Rattle.expression_rules.specs.declared.symbols.Symbol.{Symbol}
use Rattle.expression_rules.specs.declared.symbols.Symbol.TheVariants.{Uninitialized, Initialized, Constant, Array, Template, Arrangement}

abbrev pub Name : Type 0
Name = List ℕ

abbrev pub SymbolTable : Type 0
SymbolTable = List (Name × Symbol)

-- what a name stands for, if it is declared
abbrev pub find : Name → SymbolTable → Option Symbol
find x t = lookup (bytes_eq x) t

abbrev pub is_declared : Name → SymbolTable → Bool
is_declared x t = is_some (find x t)

-- the names, where this one stands for something else from now on, or comes last
abbrev pub changed : Name → Symbol → SymbolTable → SymbolTable
changed x s t = insert_entry bytes_eq t x s

-- the names and one more, unless it is declared
abbrev pub added : SymbolTable → Name → Symbol → SymbolTable
added t x s = if is_declared x t then t else changed x s t

-- a scalar variable
abbrev pub is_scalar : Symbol → Bool
is_scalar Uninitialized = true
is_scalar (Initialized n) = true
is_scalar s = false

abbrev pub is_array : Symbol → Bool
is_array (Array r ds n) = true
is_array s = false

-- a scalar variable without an initial value
abbrev pub is_uninitialized : Symbol → Bool
is_uninitialized Uninitialized = true
is_uninitialized s = false

-- what stands in expressions for a number, or for numbers
abbrev pub is_operand : Symbol → Bool
is_operand (Template r) = false
is_operand (Arrangement r) = false
is_operand s = true

abbrev pub is_variable : Symbol → Bool
is_variable (Constant n) = false
is_variable s = is_operand s

-- a test of what a name stands for, which fails where it isn't declared
abbrev pub satisfies : (Symbol → Bool) → Option Symbol → Bool
satisfies test None = false
satisfies test (Some s) = test s

-- the rank of an array, and 0 of anything else
abbrev pub rank_of : Option Symbol → ℕ
rank_of (Some (Array r ds n)) = r
rank_of s = 0

-- the elements of an array whose dimensions are known
abbrev pub elements_of : Symbol → ℕ
elements_of (Array r (Some ds) n) = elements ds
elements_of s = 0

-- the elements of all arrays whose dimensions are known
abbrev pub all_elements : SymbolTable → ℕ
all_elements [] = 0
all_elements (e ∷ es) = elements_of e.1 + all_elements es

-- the names, where these stand for scalars: the align dummies of a directive, which hide what is declared (HPF 2.0, 3.4)
abbrev pub with_dummies : SymbolTable → List Name → SymbolTable
with_dummies t xs = map (λ x. (x, Uninitialized)) xs ++ t

abbrev pub is_among : Name → List Name → Bool
is_among x xs = list_any (bytes_eq x) xs
