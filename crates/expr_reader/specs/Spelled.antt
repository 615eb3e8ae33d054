-- Of a promise.
-- That lexemes are taken, and that a reading is right.
use Rattle.std.specs.Prelude.{◌≡◌, ◌≤◌, ℕ, List, ◌++◌, length, drop, Option, Some, None}
use Rattle.syntax_tree.specs.Lexeme.{Lexeme}
use Rattle.syntax_tree.specs.Expression.{Expression}
use Rattle.syntax_tree.specs.Spelling.{spelling, binds, IsFormed}

-- the first n lexemes are these
abbrev pub Takes : List Lexeme → List Lexeme → ℕ → Type 0
Takes text ts n = (ts ≡ text ++ drop n ts) × (n ≡ length text)

-- an expression that may stand at a place, of the first lexemes
pub record Spelled (place : ℕ) (ts : List Lexeme) (x : Expression × ℕ) : Type 0 where
  pub formed : IsFormed x.0
  pub bound : place ≤ binds x.0
  pub takes : Takes (spelling x.0) ts x.1

-- a fact of the value, if there is one
abbrev pub Ifs : {A : Type 0} → Option A → (A → Type 0) → Type 0
Ifs None P = Unit {0}
Ifs (Some x) P = P x
