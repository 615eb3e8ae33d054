-- Of a promise.
-- What reading from left to right comes to.
use Rattle.std.specs.Prelude.{List}
use Rattle.syntax_tree.specs.Lexeme.{Lexeme}
use Rattle.line_forms.specs.declared.read_error.ReadError.{ReadError}

-- what stands in front with what stands after it; or why nothing is read
pub data Reading (A : Type 0) : Type 0 where
  Found : A × List Lexeme → Reading A
  Stopped : ReadError → Reading A

infixl 10 ◌>>=◌
-- on with what was found
abbrev pub ◌>>=◌ : {A B : Type 0} → Reading A → (A × List Lexeme → Reading B) → Reading B
(Found x) >>= f = f x
(Stopped why) >>= f = Stopped why
