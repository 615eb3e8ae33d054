-- Of the claim.
-- What spells the parts of a line, and which are well formed.
use Rattle.std.specs.Prelude.{◌≡◌, true, false, List, [], ◌∷◌, ◌++◌, map, All, Option, Some, None, option_map}
use Rattle.std.proofs.Common.{inl, inr}
use Rattle.op_tables.specs.Words.{is_reserved}
use Rattle.syntax_tree.specs.Lexeme.{Lexeme, Word, Text}
use Rattle.syntax_tree.specs.Expression.{Expression, kept, part_kept}
use Rattle.syntax_tree.specs.Spelling.{spelling, part_spelling, IsFormed, IsPart}
use Rattle.line_forms.specs.Marks.{comma}
use Rattle.line_forms.specs.Grammar.{Grammar, Value, Output, Shown, Characters, Nothing, Identifier, Expr, Item, Subscript, Prefixed, Suffixed, Sequence, Optional, Choice, Skipped, CommaList, Header, OptionalToEnd}

-- lists with commas between
abbrev pub with_commas : List (List Lexeme) → List Lexeme
with_commas [] = []
with_commas (a ∷ []) = a
with_commas (a ∷ b ∷ rest) = a ++ (comma ++ with_commas (b ∷ rest))

abbrev pub after_comma : Option Expression → List Lexeme
after_comma None = []
after_comma (Some e) = comma ++ spelling e

abbrev pub output_spelling : Output → List Lexeme
output_spelling (Shown e) = spelling e
output_spelling (Characters bytes) = Text bytes ∷ []

abbrev pub printed : (g : Grammar) → Value g → List Lexeme
printed Nothing v = []
printed Identifier x = Word x ∷ []
printed Expr e = spelling e
printed Item i = output_spelling i
printed Subscript p = part_spelling p
printed (Prefixed ks g) v = ks ++ printed g v
printed (Suffixed g ks) v = printed g v ++ ks
printed (Sequence g h) v = printed g v.0 ++ printed h v.1
printed (Optional ks g) None = []
printed (Optional ks g) (Some v) = ks ++ printed g v
printed (Choice ks g h) (inl v) = ks ++ printed g v
printed (Choice ks g h) (inr v) = printed h v
printed (Skipped ks) true = ks
printed (Skipped ks) false = []
printed (CommaList g) vs = with_commas (map (printed g) vs)
printed (Header g) v = with_commas (map (printed g) v.0) ++ after_comma v.1
printed (OptionalToEnd g) None = []
printed (OptionalToEnd g) (Some v) = printed g v

abbrev pub IsOutput : Output → Type 0
IsOutput (Shown e) = IsFormed e
IsOutput (Characters bytes) = Unit {0}

abbrev pub IfFormed : Option Expression → Type 0
IfFormed None = Unit {0}
IfFormed (Some e) = IsFormed e

-- there is one, and each is so
abbrev pub Some_and_all : {A : Type 0} → (A → Type 0) → List A → Type 0
Some_and_all P [] = ⊥
Some_and_all P (x ∷ xs) = P x × All P xs

-- well formed, however deep its expressions are
abbrev pub IsWell : (g : Grammar) → Value g → Type 0
IsWell Nothing v = Unit {0}
IsWell Identifier x = is_reserved x ≡ false
IsWell Expr e = IsFormed e
IsWell Item i = IsOutput i
IsWell Subscript p = IsPart p
IsWell (Prefixed ks g) v = IsWell g v
IsWell (Suffixed g ks) v = IsWell g v
IsWell (Sequence g h) v = IsWell g v.0 × IsWell h v.1
IsWell (Optional ks g) None = Unit {0}
IsWell (Optional ks g) (Some v) = IsWell g v
IsWell (Choice ks g h) (inl v) = IsWell g v
IsWell (Choice ks g h) (inr v) = IsWell h v
IsWell (Skipped ks) b = Unit {0}
IsWell (CommaList g) vs = Some_and_all (IsWell g) vs
IsWell (Header g) v = Some_and_all (IsWell g) v.0 × IfFormed v.1
IsWell (OptionalToEnd g) None = Unit {0}
IsWell (OptionalToEnd g) (Some v) = IsWell g v

abbrev pub output_kept : Output → Output
output_kept (Shown e) = Shown (kept e)
output_kept (Characters bytes) = Characters bytes

-- what a tree keeps of what is written
abbrev pub value_kept : (g : Grammar) → Value g → Value g
value_kept Nothing v = v
value_kept Identifier x = x
value_kept Expr e = kept e
value_kept Item i = output_kept i
value_kept Subscript p = part_kept p
value_kept (Prefixed ks g) v = value_kept g v
value_kept (Suffixed g ks) v = value_kept g v
value_kept (Sequence g h) v = (value_kept g v.0, value_kept h v.1)
value_kept (Optional ks g) None = None
value_kept (Optional ks g) (Some v) = Some (value_kept g v)
value_kept (Choice ks g h) (inl v) = inl (value_kept g v)
value_kept (Choice ks g h) (inr v) = inr (value_kept h v)
value_kept (Skipped ks) b = false
value_kept (CommaList g) vs = map (value_kept g) vs
value_kept (Header g) v = (map (value_kept g) v.0, option_map kept v.1)
value_kept (OptionalToEnd g) None = None
value_kept (OptionalToEnd g) (Some v) = Some (value_kept g v)
