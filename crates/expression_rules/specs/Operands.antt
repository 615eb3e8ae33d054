-- Of the claim.
-- The names in expressions, and what each must stand for (Fortran 95, 7.1.1).
use Rattle.std.specs.Prelude.{Bool, List, [], ◌∷◌, ◌++◌}
use Rattle.std.specs.List.{list_all}
use Rattle.syntax_tree.specs.Expression.{Expression, Number, Truth, Name as Alone, Element, Call, Unary, Binary, Closed, Part, One, Range, Glued, Parts, End, More, Maybe, Absent, Present}
use Rattle.expression_rules.specs.Symbols.{Name, SymbolTable, find, satisfies, is_operand}

-- the names in an expression
abbrev mutual
  pub names_in : Expression → List Name
  names_in (Number n) = []
  names_in (Truth b) = []
  names_in (Alone x) = x ∷ []
  names_in (Element x ps) = x ∷ names_in_parts ps
  names_in (Call o ps) = names_in_parts ps
  names_in (Unary o a) = names_in a
  names_in (Binary o a b) = names_in a ++ names_in b
  names_in (Closed a) = names_in a

  pub names_in_parts : Parts → List Name
  names_in_parts End = []
  names_in_parts (More p ps) = names_in_part p ++ names_in_parts ps

  pub names_in_part : Part → List Name
  names_in_part (One e) = names_in e
  names_in_part (Range a b c) = names_in_maybe a ++ names_in_maybe b ++ names_in_maybe c
  names_in_part (Glued a c) = names_in_maybe a ++ names_in c

  pub names_in_maybe : Maybe → List Name
  names_in_maybe Absent = []
  names_in_maybe (Present e) = names_in e

-- each name in an expression stands for a number or for numbers
abbrev pub are_operands : SymbolTable → Expression → Bool
are_operands t e = list_all (λ x. satisfies is_operand (find x t)) (names_in e)
