-- Of the claim.
-- The expressions inside an expression (Fortran 95, 7.1.1).
use Rattle.std.specs.Prelude.{Bool, List, [], ◌∷◌, ◌++◌}
use Rattle.std.specs.List.{list_all}
use Rattle.syntax_tree.specs.Expression.{Expression, Number, Truth, Name, Element, Call, Unary, Binary, Closed, Part, One, Range, Glued, Parts, End, More, Maybe, Absent, Present}

-- an expression and all expressions inside it, in the order of the text
abbrev mutual
  pub subexpressions : Expression → List Expression
  subexpressions (Number n) = Number n ∷ []
  subexpressions (Truth b) = Truth b ∷ []
  subexpressions (Name x) = Name x ∷ []
  subexpressions (Element x ps) = Element x ps ∷ subexpressions_in_parts ps
  subexpressions (Call o ps) = Call o ps ∷ subexpressions_in_parts ps
  subexpressions (Unary o a) = Unary o a ∷ subexpressions a
  subexpressions (Binary o a b) = Binary o a b ∷ (subexpressions a ++ subexpressions b)
  subexpressions (Closed a) = Closed a ∷ subexpressions a

  pub subexpressions_in_parts : Parts → List Expression
  subexpressions_in_parts End = []
  subexpressions_in_parts (More p ps) = subexpressions_in_part p ++ subexpressions_in_parts ps

  pub subexpressions_in_part : Part → List Expression
  subexpressions_in_part (One e) = subexpressions e
  subexpressions_in_part (Range a b c) = subexpressions_in_maybe a ++ subexpressions_in_maybe b ++ subexpressions_in_maybe c
  subexpressions_in_part (Glued a c) = subexpressions_in_maybe a ++ subexpressions c

  pub subexpressions_in_maybe : Maybe → List Expression
  subexpressions_in_maybe Absent = []
  subexpressions_in_maybe (Present e) = subexpressions e

-- an expression and all that is inside it pass a test
abbrev pub all_inside : (Expression → Bool) → Expression → Bool
all_inside test e = list_all test (subexpressions e)
