-- Of a promise.
-- What the functions of the code gave.
use Rattle.std.specs.Prelude.{◌≡◌, ◌≢◌, suc, Bool, List, ◌++◌, length, Result, Ok, Err}
use Rattle.syntax_tree.specs.Lexeme.{Lexeme}
use Rattle.line_forms.specs.declared.lists.ListKind.{ListKind}
use Rattle.line_forms.specs.declared.lists.ListKind.TheVariants.{Plain, Indices}
use Rattle.line_forms.specs.declared.read_error.ReadError.{ReadError}
use Rattle.line_forms.specs.declared.read_error.ReadError.TheVariants.{Memory}
use Rattle.line_forms.specs.Reading.{Reading, Found, Stopped}
use Rattle.line_forms.specs.Marks.{comma, starts}
use Rattle.line_forms.specs.Read.{index_next, comma_list}

-- what was read, or why nothing was; want of memory has no cause in the lexemes
abbrev pub Gives : {X A : Type 0} → (X → A × List Lexeme) → Result X ReadError → Reading A → Type 0
Gives view (Ok x) r = r ≡ Found (view x)
Gives view (Err e) r = (e ≢ Memory) → r ≡ Stopped e

-- elements in front of those that were read
abbrev pub with_front : {A : Type 0} → List A → Reading (List A) → Reading (List A)
with_front front (Found x) = Found (front ++ x.0, x.1)
with_front front (Stopped why) = Stopped why

-- a list goes on after an element: with a comma, and where its elements are indices with a comma and an index
abbrev pub goes_on : ListKind → List Lexeme → Bool
goes_on Plain ts = starts comma ts
goes_on Indices ts = index_next ts

-- the elements in front
abbrev pub elements : {A : Type 0} → ListKind → (List Lexeme → Reading A) → List Lexeme → Reading (List A)
elements kind part ts = comma_list (goes_on kind) part (suc (length ts)) ts
