-- Of a promise.
-- What the rules of names and of types say of the statements in a nest of a program.
use Rattle.std.specs.Prelude.{◌≡◌, bytes_eq, position, List, Bool, true, false, ◌||◌, not, is_some}
use Rattle.std.specs.List.{AllByRecursion, list_all}
use Rattle.syntax_tree.specs.Expression.{Expression, Element}
use Rattle.expression_rules.specs.Operands.{names_in}
use Rattle.expression_rules.specs.Symbols.{Name, is_among}
use Rattle.statement_walk.specs.Heads.{PlacedHead}
use Rattle.name_table.specs.declared.names.Entry.{Entry}
use Rattle.name_table.specs.Entries.{declared_as}
use Rattle.name_table.specs.NameRules.{expressions_of, own_uses}
use Rattle.name_table.specs.Uses.{Use, Assigned, DoVariable}
use Rattle.body_forms.specs.Subexpressions.{subexpressions}
use Rattle.body_forms.specs.Names.{is_scalar}

-- a name is declared. Its place alone doesn't say so: a name that isn't declared has place 0
abbrev pub Declared : List Entry → Name → Type 0
Declared names x = is_some (position (λ (e : Entry). bytes_eq x e.name) names) ≡ true

abbrev pub AreDeclared : List Entry → List Name → Type 0
AreDeclared names xs = AllByRecursion (Declared names) xs

-- a scalar variable
abbrev pub IsScalar : List Entry → Name → Type 0
IsScalar names x = Declared names x × (is_scalar (declared_as names x) ≡ true)

-- the names in an expression are declared
abbrev pub Names : List Entry → Expression → Type 0
Names names e = AreDeclared names (names_in e)

-- what the rules of names say of a use inside loops of these indices: no index is assigned, and a loop has a scalar that is none of them
abbrev pub IsGoodUse : List Entry → List Name → Use → Type 0
IsGoodUse names ys (Assigned hidden x) = Declared names x × ((not (is_among x ys) || is_among x hidden) ≡ true)
IsGoodUse names ys (DoVariable x) = IsScalar names x × (is_among x ys ≡ false)
IsGoodUse names ys u = Unit {0}

-- what has subscripts is no scalar
abbrev pub is_array_in : List Entry → Expression → Bool
is_array_in names (Element x ps) = not (is_scalar (declared_as names x))
is_array_in names e = true

abbrev pub names_arrays : List Entry → Expression → Bool
names_arrays names e = list_all (is_array_in names) (subexpressions e)

-- a statement keeps these rules
pub record IsNamed (names : List Entry) (h : PlacedHead) : Type 0 where
  pub expressions : AllByRecursion (Names names) (expressions_of h.what)
  pub uses : AllByRecursion (IsGoodUse names h.do_variables) (own_uses h.what)
  pub arrays : list_all (names_arrays names) (expressions_of h.what) ≡ true
