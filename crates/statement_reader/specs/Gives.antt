-- Of private clauses.
-- No public clause cites this file.
-- What the functions of the code gave.
use Rattle.std.specs.Prelude.{◌≡◌, ◌≢◌, Bool, true, false, List, [], Result, Ok, Err}
use Rattle.syntax_tree.specs.Lexeme.{Lexeme}
use Rattle.line_forms.specs.declared.read_error.ReadError.{ReadError}
use Rattle.line_forms.specs.declared.read_error.ReadError.TheVariants.{Malformed, Memory}
use Rattle.line_forms.specs.Reading.{Reading, Found, Stopped}
use Rattle.statement_reader.specs.Reading.{is_nothing}

-- what was read of a whole line, or why nothing was; want of memory has no cause in the line
abbrev pub GivesWhole : {X A : Type 0} → (X → A) → Result X ReadError → Reading A → Type 0
GivesWhole view (Ok x) r = r ≡ Found (view x, [])
GivesWhole view (Err e) r = (e ≢ Memory) → r ≡ Stopped e

-- whether the line ends there
abbrev pub Ended : Result (Unit {0}) ReadError → List Lexeme → Type 0
Ended (Ok x) ts = is_nothing ts ≡ true
Ended (Err e) ts = (e ≡ Malformed) × (is_nothing ts ≡ false)

-- what a test tells of a statement
abbrev pub Tells : Bool → Type 0 → Type 0
Tells true P = P
Tells false P = P → ⊥
