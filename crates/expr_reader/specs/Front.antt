-- Of a promise.
-- The longest expression at the front, and the lexemes after it.
use Rattle.std.specs.Prelude.{◌≡◌, List, [], ◌∷◌, ◌++◌, ◌≤◌, drop, Option, Some, None, false}
use Rattle.syntax_tree.specs.Lexeme.{Lexeme, sign_of}
use Rattle.syntax_tree.specs.Operators.{binary_of}
use Rattle.syntax_tree.specs.Expression.{Expression, kept}
use Rattle.syntax_tree.specs.Spelling.{spelling, IsFormed, depth}
use Rattle.expr_reader.specs.Reading.{◌>>=◌, apart, is_open, reading}

unfoldable pub front : List Lexeme → Option (Expression × List Lexeme)
front ts = (reading apart ts).core.expr 0 >>= λ x. Some (x.0, drop x.1 ts)

-- no expression goes on with these lexemes
abbrev pub Ends : List Lexeme → Type 0
Ends [] = Unit {0}
Ends (t ∷ ts) = (is_open (sign_of t) ≡ false) × (binary_of t ≡ None)

-- what a function read
abbrev pub Gives : {X Y : Type 0} → (X → Y) → Option X → Option Y → Type 0
Gives view None read = None ≡ read
Gives view (Some x) read = Some (view x) ≡ read

-- the tree of an expression that is spelled at the front
pub record IsFront (ts : List Lexeme) (x : Expression × List Lexeme) : Type 0 where
  pub written : Expression
  pub same : kept written ≡ x.0
  pub formed : IsFormed written
  pub parts : ts ≡ spelling written ++ x.1

-- an expression is found that is at least as deep
abbrev pub IsAsDeep : Expression → Option (Expression × List Lexeme) → Type 0
IsAsDeep e None = ⊥
IsAsDeep e (Some x) = depth e ≤ depth x.0
