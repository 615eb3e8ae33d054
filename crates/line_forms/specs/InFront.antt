-- Of a promise.
-- What was read, and why nothing was.
use Rattle.std.specs.Prelude.{◌≡◌, List, ◌++◌, None}
use Rattle.syntax_tree.specs.Lexeme.{Lexeme}
use Rattle.line_forms.specs.declared.depths.Depths.{Depths}
use Rattle.line_forms.specs.declared.read_error.ReadError.TheVariants.{TooDeep}
use Rattle.line_forms.specs.Reading.{Reading, Found, Stopped}
use Rattle.line_forms.specs.Grammar.{Grammar, Value}
use Rattle.line_forms.specs.Printed.{printed, IsWell, value_kept}
use Rattle.line_forms.specs.DeepFront.{deep_front}

-- a fact of what was found, if anything was
abbrev pub On : {A : Type 0} → Reading A → (A × List Lexeme → Type 0) → Type 0
On (Found x) P = P x
On (Stopped why) P = Unit {0}

-- a fact of what was found, and another where the reading stopped at an expression that is too deep
abbrev pub Holds : {A : Type 0} → Reading A → (A × List Lexeme → Type 0) → Type 0 → Type 0
Holds (Found x) P Q = P x
Holds (Stopped why) P Q = why ≡ TooDeep → Q

-- what a tree keeps of something well formed that is spelled in front and has no expression that is too deep
pub record IsInFront (depths : Depths) (g : Grammar) (ts : List Lexeme) (x : Value g × List Lexeme) : Type 0 where
  pub written : Value g
  pub same : value_kept g written ≡ x.0
  pub well : IsWell g written
  pub shallow : deep_front depths g written ≡ None
  pub parts : ts ≡ printed g written ++ x.1
