-- Of a promise.
-- Reading the parts of a line from left to right, as functions on lists of lexemes.
use Rattle.std.specs.Prelude.{ℕ, zero, suc, Bool, false, ◌&&◌, List, [], ◌∷◌, length, drop, Option, Some, None, if◌then◌else◌}
use Rattle.std.proofs.Common.{inl, inr}
use Rattle.op_tables.specs.Words.{is_reserved}
use Rattle.syntax_tree.specs.Lexeme.{Lexeme, Word, Text}
use Rattle.syntax_tree.specs.Expression.{Expression, Part, One, Range, Maybe, Absent, Present}
use Rattle.expr_reader.specs.Front.{front}
use Rattle.line_forms.specs.declared.depths.Depths.{Depths}
use Rattle.line_forms.specs.declared.read_error.ReadError.TheVariants.{Malformed, TooDeep}
use Rattle.line_forms.specs.DeepFront.{is_too_deep}
use Rattle.line_forms.specs.Marks.{starts, comma, colon, colons, equals}
use Rattle.line_forms.specs.Reading.{Reading, Found, Stopped, ◌>>=◌}
use Rattle.line_forms.specs.Grammar.{Grammar, Value, Output, Shown, Characters, Nothing, Identifier, Expr, Item, Subscript, Prefixed, Suffixed, Sequence, Optional, Choice, Skipped, CommaList, Header, OptionalToEnd}

-- the fixed lexemes in front
abbrev pub after_marks : List Lexeme → List Lexeme → Reading (Unit {0})
after_marks ks ts = if starts ks ts then Found (tt, drop (length ks) ts) else Stopped Malformed

-- a name in front
abbrev pub name : List Lexeme → Reading (List ℕ)
name (Word x ∷ ts) = if is_reserved x then Stopped Malformed else Found (x, ts)
name ts = Stopped Malformed

-- an expression that has been found, or that it is too deep
abbrev pub within_depth : Depths → Option (Expression × List Lexeme) → Reading Expression
within_depth depths None = Stopped Malformed
within_depth depths (Some x) = if is_too_deep depths x.0 then Stopped TooDeep else Found x

abbrev pub expr : Depths → List Lexeme → Reading Expression
expr depths ts = within_depth depths (front ts)

-- an expression that may be there
abbrev pub if_there : Depths → List Lexeme → Option (Expression × List Lexeme) → Reading Maybe
if_there depths ts None = Found (Absent, ts)
if_there depths ts (Some x) = within_depth depths (Some x) >>= λ x. Found (Present x.0, x.1)

abbrev pub optional_expr : Depths → List Lexeme → Reading Maybe
optional_expr depths ts = if_there depths ts (front ts)

abbrev pub shown : Depths → List Lexeme → Reading Output
shown depths ts = expr depths ts >>= λ x. Found (Shown x.0, x.1)

abbrev pub item : Depths → List Lexeme → Reading Output
item depths (Text bytes ∷ ts) = Found (Characters bytes, ts)
item depths ts = shown depths ts

-- a triplet after its first colon, and after `::`
abbrev pub step : Depths → Maybe → Maybe × List Lexeme → Reading Part
step depths a b = if starts colon b.1 then (expr depths (drop 1 b.1) >>= λ c. Found (Range a b.0 (Present c.0), c.1)) else Found (Range a b.0 Absent, b.1)

abbrev pub triplet : Depths → Maybe → List Lexeme → Reading Part
triplet depths a ts = optional_expr depths ts >>= λ b. step depths a b

abbrev pub stepped : Depths → Maybe → List Lexeme → Reading Part
stepped depths a ts = expr depths ts >>= λ c. Found (Range a Absent (Present c.0), c.1)

abbrev pub one : Maybe → List Lexeme → Reading Part
one Absent ts = Stopped Malformed
one (Present e) ts = Found (One e, ts)

abbrev pub part_from : Depths → Maybe × List Lexeme → Reading Part
part_from depths a =
    if starts colon a.1 then triplet depths a.0 (drop 1 a.1) else if starts colons a.1 then stepped depths a.0 (drop 1 a.1) else one a.0 a.1

abbrev pub subscript : Depths → List Lexeme → Reading Part
subscript depths ts = optional_expr depths ts >>= λ a. part_from depths a

-- an index of a header is after a comma
abbrev pub is_index : List Lexeme → Bool
is_index (Word x ∷ ts) = starts equals ts
is_index ts = false

abbrev pub index_next : List Lexeme → Bool
index_next ts = starts comma ts && is_index (drop 1 ts)

-- parts in front, of which another one follows after a comma where `next` says so; at most so many
module _ {A : Type 0} (next : List Lexeme → Bool) (part : List Lexeme → Reading A) where
  unfoldable pub comma_list : ℕ → List Lexeme → Reading (List A)
  comma_list zero ts = Stopped Malformed
  comma_list (suc most) ts = part ts >>= λ x. if next x.1 then (comma_list most (drop 1 x.1) >>= λ xs. Found (x.0 ∷ xs.0, xs.1)) else Found (x.0 ∷ [], x.1)

abbrev pub mask : Depths → List Lexeme → Reading (Option Expression)
mask depths ts = if starts comma ts then (expr depths (drop 1 ts) >>= λ x. Found (Some x.0, x.1)) else Found (None, ts)

abbrev pub read : Depths → (g : Grammar) → List Lexeme → Reading (Value g)
read depths Nothing ts = Found (tt, ts)
read depths Identifier ts = name ts
read depths Expr ts = expr depths ts
read depths Item ts = item depths ts
read depths Subscript ts = subscript depths ts
read depths (Prefixed ks g) ts = after_marks ks ts >>= λ x. read depths g x.1
read depths (Suffixed g ks) ts = read depths g ts >>= λ v. after_marks ks v.1 >>= λ x. Found (v.0, x.1)
read depths (Sequence g h) ts = read depths g ts >>= λ v. read depths h v.1 >>= λ w. Found ((v.0, w.0), w.1)
read depths (Optional ks g) ts = if starts ks ts then (read depths g (drop (length ks) ts) >>= λ v. Found (Some v.0, v.1)) else Found (None, ts)
read depths (Choice ks g h) ts =
    if starts ks ts then (read depths g (drop (length ks) ts) >>= λ v. Found (inl v.0, v.1)) else (read depths h ts >>= λ v. Found (inr v.0, v.1))
read depths (Skipped ks) ts = if starts ks ts then Found (false, drop (length ks) ts) else Found (false, ts)
read depths (CommaList g) ts = comma_list (starts comma) (read depths g) (suc (length ts)) ts
read depths (Header g) ts = comma_list index_next (read depths g) (suc (length ts)) ts >>= λ v. mask depths v.1 >>= λ w. Found ((v.0, w.0), w.1)
read depths (OptionalToEnd g) [] = Found (None, [])
read depths (OptionalToEnd g) (t ∷ ts) = read depths g (t ∷ ts) >>= λ v. Found (Some v.0, v.1)
