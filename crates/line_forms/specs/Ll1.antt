-- Of a promise.
-- How the rest of a line may begin, and grammars that are read without looking back.
use Rattle.std.specs.Prelude.{◌≡◌, Bool, true, false, not, ◌&&◌, ◌||◌, List, [], ◌∷◌, ◌++◌, is_none}
use Rattle.std.specs.List.{list_all, list_any}
use Rattle.op_tables.specs.Words.{is_reserved}
use Rattle.syntax_tree.specs.declared.sign.Sign.TheVariants as sign
use Rattle.syntax_tree.specs.Lexeme.{Lexeme, Word, Integer, Text, Fixed, sign_of}
use Rattle.syntax_tree.specs.Operators.{binary_of}
use Rattle.expr_reader.specs.Reading.{is_open, is_colon, is_colons}
use Rattle.line_forms.specs.Marks.{same, starts, comma, colon, colons, equals}
use Rattle.line_forms.specs.Grammar.{Grammar, Nothing, Identifier, Expr, Item, Subscript, Prefixed, Suffixed, Sequence, Optional, Choice, Skipped, CommaList, Header, OptionalToEnd}

-- how lexemes may begin
pub data FirstItem : Type 0 where
  -- there are none
  Finish : FirstItem
  -- these stand in front
  Exactly : List Lexeme → FirstItem
  -- a word in front that isn't reserved
  AnyName : FirstItem
  -- a lexeme in front with which an expression may begin
  Operand : FirstItem
  AnyText : FirstItem

-- an expression may begin with it (Fortran 95, 7.1.1)
abbrev pub is_operand : Lexeme → Bool
is_operand (Word x) = true
is_operand (Integer n) = true
is_operand (Fixed sign.Open) = true
is_operand (Fixed sign.Plus) = true
is_operand (Fixed sign.Minus) = true
is_operand (Fixed sign.Not) = true
is_operand (Fixed sign.True) = true
is_operand (Fixed sign.False) = true
is_operand t = false

abbrev pub is_first : FirstItem → List Lexeme → Bool
is_first Finish [] = true
is_first (Exactly ks) ts = starts ks ts
is_first AnyName (Word x ∷ ts) = not (is_reserved x)
is_first Operand (t ∷ ts) = is_operand t
is_first AnyText (Text bytes ∷ ts) = true
is_first f ts = false

-- lexemes begin in one of these ways
abbrev pub begins : List FirstItem → List Lexeme → Bool
begins fs ts = list_any (λ f. is_first f ts) fs

abbrev pub Begins : List FirstItem → List Lexeme → Type 0
Begins fs ts = begins fs ts ≡ true

-- how a part of a line may begin, where the rest after it may begin so
abbrev pub first_set : Grammar → List FirstItem → List FirstItem
first_set Nothing fs = fs
first_set Identifier fs = AnyName ∷ []
first_set Expr fs = Operand ∷ []
first_set Item fs = Operand ∷ AnyText ∷ []
first_set Subscript fs = Operand ∷ Exactly colon ∷ Exactly colons ∷ []
first_set (Prefixed ks g) fs = Exactly ks ∷ []
first_set (Suffixed g ks) fs = first_set g (Exactly ks ∷ [])
first_set (Sequence g h) fs = first_set g (first_set h fs)
first_set (Optional ks g) fs = Exactly ks ∷ fs
first_set (Choice ks g h) fs = Exactly ks ∷ first_set h fs
first_set (Skipped ks) fs = Exactly ks ∷ fs
first_set (CommaList g) fs = first_set g (Exactly comma ∷ fs)
first_set (Header g) fs = first_set g (Exactly comma ∷ fs)
first_set (OptionalToEnd g) fs = first_set g fs ++ fs

-- words, operators and delimiters
abbrev pub is_mark : Lexeme → Bool
is_mark (Word x) = true
is_mark (Fixed s) = true
is_mark t = false

abbrev pub are_marks : List Lexeme → Bool
are_marks ks = list_all is_mark ks

-- the first that stand in front of one aren't those that stand in front of the other
abbrev pub differ : List Lexeme → List Lexeme → Bool
differ (k ∷ ks) (j ∷ js) = not (same k j) || differ ks js
differ ks js = false

-- the word isn't reserved, or it is no word
abbrev pub may_be_name : Lexeme → Bool
may_be_name (Word x) = not (is_reserved x)
may_be_name t = false

-- fixed lexemes don't stand in front of what begins so
abbrev pub disjoint_from : List Lexeme → FirstItem → Bool
disjoint_from [] f = false
disjoint_from (k ∷ ks) Finish = true
disjoint_from (k ∷ ks) (Exactly js) = differ (k ∷ ks) js
disjoint_from (k ∷ ks) AnyName = not (may_be_name k)
disjoint_from (k ∷ ks) Operand = not (is_operand k)
disjoint_from (k ∷ ks) AnyText = true

abbrev pub disjoint : List Lexeme → List FirstItem → Bool
disjoint ks fs = list_all (disjoint_from ks) fs

-- no expression goes on with it
abbrev pub is_end : Lexeme → Bool
is_end t = not (is_open (sign_of t)) && is_none (binary_of t)

-- nor does a subscript, with an expression or a colon
abbrev pub is_subscript_end : Lexeme → Bool
is_subscript_end t = is_end t && not (is_operand t) && not (is_colon (sign_of t)) && not (is_colons (sign_of t))

abbrev pub ends_expression : FirstItem → Bool
ends_expression Operand = false
ends_expression (Exactly []) = false
ends_expression (Exactly (k ∷ ks)) = is_end k
ends_expression f = true

abbrev pub ends_subscript : FirstItem → Bool
ends_subscript Finish = true
ends_subscript AnyText = true
ends_subscript (Exactly (k ∷ ks)) = is_subscript_end k
ends_subscript f = false

abbrev pub is_finish : FirstItem → Bool
is_finish Finish = true
is_finish f = false

-- what begins so has a lexeme
abbrev pub is_filled : FirstItem → Bool
is_filled Finish = false
is_filled (Exactly []) = false
is_filled f = true

-- a name and `=` stand in front
abbrev pub is_indexed : Grammar → Bool
is_indexed (Sequence Identifier (Prefixed ks g)) = starts equals ks
is_indexed g = false

-- a part of a line is read without looking back, where the rest after it may begin so: each choice is made by what
-- stands in front
abbrev pub is_ll1 : Grammar → List FirstItem → Bool
is_ll1 Nothing fs = true
is_ll1 Identifier fs = true
is_ll1 Expr fs = list_all ends_expression fs
is_ll1 Item fs = list_all ends_expression fs
is_ll1 Subscript fs = list_all ends_subscript fs
is_ll1 (Prefixed ks g) fs = are_marks ks && is_ll1 g fs
is_ll1 (Suffixed g ks) fs = are_marks ks && is_ll1 g (Exactly ks ∷ [])
is_ll1 (Sequence g h) fs = is_ll1 g (first_set h fs) && is_ll1 h fs
is_ll1 (Optional ks g) fs = are_marks ks && disjoint ks fs && is_ll1 g fs
is_ll1 (Choice ks g h) fs = are_marks ks && disjoint ks (first_set h fs) && is_ll1 g fs && is_ll1 h fs
is_ll1 (Skipped ks) fs = are_marks ks && disjoint ks fs
is_ll1 (CommaList g) fs = disjoint comma fs && is_ll1 g (Exactly comma ∷ fs)
is_ll1 (Header g) fs = is_indexed g && list_all ends_expression fs && disjoint comma fs && disjoint equals fs && is_ll1 g (Exactly comma ∷ fs)
is_ll1 (OptionalToEnd g) fs = list_all is_finish fs && list_all is_filled (first_set g fs) && is_ll1 g fs
