-- Of a promise.
-- Programs of which each name is found among the declared ones, and each left side is a variable (Fortran 95, 5, 6 and 7.5): where
-- `Resolution` has an answer for a name that isn't there, or for a left side that is none, it never gives it.
use Rattle.std.specs.Prelude.{◌≡◌, ⊤, bytes_eq, position, List, [], Option, Some}
use Rattle.std.specs.List.{AllByRecursion}
use Rattle.syntax_tree.specs.Expression.{Expression}
use Rattle.expression_rules.specs.Operands.{names_in}
use Rattle.expression_rules.specs.Symbols.{Name}
use Rattle.statement_walk.specs.Head.{Head}
use Rattle.statement_walk.specs.Head as head
use Rattle.statement_walk.specs.Heads.{indices_of}
use Rattle.name_table.specs.Entries.{declared_as}
use Rattle.name_table.specs.NameRules.{expressions_of}
use Rattle.name_table.specs.declared.names.Entry.{Entry}
use Rattle.name_table.specs.declared.names.What.{What}
use Rattle.name_table.specs.declared.names.What.TheVariants as what
use Rattle.array_meaning.specs.Terms.{Term, Scalar, Element, Section}
use Rattle.array_meaning.specs.Resolution.{left_of, place_of}

-- it has a place among the declared names
abbrev pub HasPlace : List Entry → Name → Type 0
HasPlace names x = position (λ e. bytes_eq x e.name) names ≡ Some (place_of names x)

-- a name in an expression stands for a number or for numbers
abbrev pub IsOperand : Option What → Type 0
IsOperand (Some (what.Scalar v)) = ⊤
IsOperand (Some (what.Constant v)) = ⊤
IsOperand (Some (what.Array ds v)) = ⊤
IsOperand w = ⊥

abbrev pub IsFound : List Entry → Name → Type 0
IsFound names x = HasPlace names x × IsOperand (declared_as names x)

-- so do all that an expression names
abbrev pub AreFound : List Entry → Expression → Type 0
AreFound names e = AllByRecursion (IsFound names) (names_in e)

-- the left side of an assignment, of one of a WHERE, and of one of a FORALL
abbrev pub IsVariable : Term → Type 0
IsVariable (Scalar k) = ⊤
IsVariable (Element k ts) = ⊤
IsVariable (Section k subs) = ⊤
IsVariable t = ⊥

abbrev pub IsSection : Term → Type 0
IsSection (Section k subs) = ⊤
IsSection t = ⊥

abbrev pub IsElement : Term → Type 0
IsElement (Element k ts) = ⊤
IsElement t = ⊥

-- the index of a loop
abbrev pub IsScalarName : Option What → Type 0
IsScalarName (Some (what.Scalar v)) = ⊤
IsScalarName w = ⊥

-- what a statement names beside its expressions
abbrev pub HasOwnNames : List Entry → Head → Type 0
HasOwnNames names (head.Assignment left right) = IsVariable (left_of names [] left)
HasOwnNames names (head.MaskedAssignment mask left right) = IsSection (left_of names [] left)
HasOwnNames names (head.ForallAssignment axes left right) = IsElement (left_of names (indices_of axes) left)
HasOwnNames names (head.Independent m) = AllByRecursion (HasPlace names) m.new × AllByRecursion (HasPlace names) m.reduction
HasOwnNames names (head.Do mark axis) = HasPlace names axis.index × IsScalarName (declared_as names axis.index)
HasOwnNames names (head.Forall axes mask) = AllByRecursion (λ x. IsScalarName (declared_as names x)) (indices_of axes)
HasOwnNames names h = ⊤

pub record IsFoundStatement (names : List Entry) (h : Head) : Type 0 where
  pub expressions : AllByRecursion (AreFound names) (expressions_of h)
  pub own : HasOwnNames names h
