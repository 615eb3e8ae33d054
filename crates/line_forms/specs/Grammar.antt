-- Of the claim.
-- Grammars of lines: what stands in them one after the other.
use Rattle.std.specs.Prelude.{ℕ, Bool, List, Option, ◌⊎◌}
use Rattle.syntax_tree.specs.Lexeme.{Lexeme}
use Rattle.syntax_tree.specs.Expression.{Expression, Part}

-- an item of a list that is printed
pub data Output : Type 0 where
  Shown : Expression → Output
  Characters : List ℕ → Output

pub data Grammar : Type 0 where
  Nothing : Grammar
  -- a name, an expression, an item of PRINT, a subscript
  Identifier : Grammar
  Expr : Grammar
  Item : Grammar
  Subscript : Grammar
  -- fixed lexemes, and a part after them or before them
  Prefixed : List Lexeme → Grammar → Grammar
  Suffixed : Grammar → List Lexeme → Grammar
  -- one part after another
  Sequence : Grammar → Grammar → Grammar
  -- a part that may be left out, and has fixed lexemes in front where it stands
  Optional : List Lexeme → Grammar → Grammar
  -- a part with fixed lexemes in front, or else another
  Choice : List Lexeme → Grammar → Grammar → Grammar
  -- fixed lexemes that change nothing
  Skipped : List Lexeme → Grammar
  -- parts with commas between
  CommaList : Grammar → Grammar
  -- indices with commas between, and an expression after a comma that may be left out
  Header : Grammar → Grammar
  -- a part that may be left out at the end of a line
  OptionalToEnd : Grammar → Grammar

-- what is said by a part
abbrev pub Value : Grammar → Type 0
Value Nothing = Unit {0}
Value Identifier = List ℕ
Value Expr = Expression
Value Item = Output
Value Subscript = Part
Value (Prefixed ks g) = Value g
Value (Suffixed g ks) = Value g
Value (Sequence g h) = Value g × Value h
Value (Optional ks g) = Option (Value g)
Value (Choice ks g h) = Value g ⊎ Value h
Value (Skipped ks) = Bool
Value (CommaList g) = List (Value g)
Value (Header g) = List (Value g) × Option Expression
Value (OptionalToEnd g) = Option (Value g)
