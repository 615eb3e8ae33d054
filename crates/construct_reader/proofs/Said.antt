-- What lines that are said say of declarations, and that the declarations of what they spell are said.
use Rattle.std.proofs.Common.{Bool, true, false, not, if◌then◌else◌, List, [], ◌∷◌, ◌++◌, map, Option, Some, None, All, sym, subst, inl, inr}
use Rattle.std.proofs.lemmas.List.Elements.{All-head, All-tail}
use Rattle.syntax_tree.specs.Expression.{Expression, Number, Truth, Name, Element, Call, Unary, Binary, Closed, End, More, kept}
use Rattle.syntax_tree.specs.Spelling.{IsFormed}
use Rattle.line_forms.specs.Grammar.{Value}
use Rattle.line_forms.specs.Parts.{bound, optional_enclosed}
use Rattle.line_forms.specs.Printed.{IsWell, Some_and_all, value_kept}
use Rattle.statement_reader.specs.declared.kind.Kind.TheVariants as kind
use Rattle.statement_reader.specs.Forms.{StatementForm, Plain, IfOne, IsForm, form_kept, constant_entity, plain_entity, declaration}
use Rattle.construct_rules.specs.ProgramLine.{OfStatement, ProgramLine}
use Rattle.construct_rules.specs.Roles.{role_of}
use Rattle.construct_rules.specs.NestState.{is_passed}
use Rattle.construct_reader.specs.Said.{IsSaid, AreSaid}
use Rattle.construct_reader.specs.ProgramLines.{Entry, AreEntriesOf, IsSpelled, end_line, from_name, has_name, is_declared, kept_after_name, kept_lines, name_lines, numbered, without_passed}
use Rattle.construct_reader.specs.SpelledProgram.{SpelledProgram}

-- ---- declarations

-- no name has an empty list after it
abbrev pub HasList : Expression → Type 0
HasList (Element x End) = ⊥
HasList e = Unit {0}

has_list : (e : Expression) → IsFormed e → HasList (kept e)
has_list (Number n) h = tt
has_list (Truth b) h = tt
has_list (Name x) h = tt
has_list (Element x End) h = absurd h.1
has_list (Element x (More p ps)) h = tt
has_list (Call o ps) h = tt
has_list (Unary o a) h = tt
has_list (Binary o a b) h = tt
has_list (Closed a) h = tt

-- no list of bounds is empty
abbrev pub HasBounds : Option (List (Value bound)) → Type 0
HasBounds (Some []) = ⊥
HasBounds o = Unit {0}

has_bounds : (o : Value (optional_enclosed bound)) → IsWell (optional_enclosed bound) o → HasBounds (value_kept (optional_enclosed bound) o)
has_bounds None h = tt
has_bounds (Some []) h = absurd h
has_bounds (Some (b ∷ bs)) h = tt

abbrev pub Each : {A : Type 0} → (A → Type 0) → List A → Type 0
Each P [] = Unit {0}
Each P (x ∷ xs) = P x × Each P xs

abbrev pub SomeEach : {A : Type 0} → (A → Type 0) → List A → Type 0
SomeEach P [] = ⊥
SomeEach P (x ∷ xs) = P x × Each P xs

module _ {A B : Type 0} (P : A → Type 0) (Q : B → Type 0) (f : A → B) (g : (a : A) → P a → Q (f a)) where
  each : (xs : List A) → All P xs → Each Q (map f xs)
  each [] h = tt
  each (x ∷ xs) h = (g x (All-head P x xs h), each xs (All-tail P x xs h))

  some_each : (xs : List A) → Some_and_all P xs → SomeEach Q (map f xs)
  some_each [] h = absurd h
  some_each (x ∷ xs) h = (g x h.0, each xs h.1)

-- a declaration names something; a constant has a value, and what stands without `::` has no empty list of bounds
abbrev pub Shaped : Value declaration → Type 0
Shaped (inl c) = SomeEach (λ e. HasList e.1.1) c.1
Shaped (inr (inl d)) = Unit {0}
Shaped (inr (inr (inl es))) = Unit {0}
Shaped (inr (inr (inr es))) = SomeEach (λ e. HasBounds e.1) es

shaped : (w : Value declaration) → IsWell declaration w → Shaped (value_kept declaration w)
shaped (inl c) h = some_each (IsWell constant_entity) (λ e. HasList e.1.1) (value_kept constant_entity) (λ e g. has_list e.1.1 g.1.1) c.1 h.1
shaped (inr (inl d)) h = tt
shaped (inr (inr (inl es))) h = tt
shaped (inr (inr (inr es))) h = some_each (IsWell plain_entity) (λ e. HasBounds e.1) (value_kept plain_entity) (λ e g. has_bounds e.1 g.1) es h

abbrev FormShaped : StatementForm → Type 0
FormShaped (Plain kind.Integer v) = Shaped v
FormShaped f = Unit {0}

form_shaped : (w : StatementForm) → IsForm w → FormShaped (form_kept w)
form_shaped (Plain kind.Integer v) h = shaped v h
form_shaped (Plain (kind.ElseWhere true) v) h = tt
form_shaped (Plain (kind.ElseWhere false) v) h = tt
form_shaped (Plain k v) h = tt
form_shaped (IfOne cond k v) h = tt

pub said_shaped : (v : Value declaration) → IsSaid (OfStatement (Plain kind.Integer v)) → Shaped v
said_shaped v h = subst FormShaped h.1 (form_shaped h.0 h.2)

-- ---- lines

said_if : (b : Bool) (xs ys : List ProgramLine) → AreSaid xs → AreSaid ys → AreSaid (if b then xs else ys)
said_if true xs ys h k = h
said_if false xs ys h k = k

said_without : (ls : List ProgramLine) → AreSaid ls → AreSaid (without_passed ls)
said_without [] h = h
said_without (l ∷ ls) h =
    said_if (not (is_passed (role_of l.what))) (l ∷ without_passed ls) (without_passed ls) (h.0, said_without ls h.1) (said_without ls h.1)

said_after : (ls : List ProgramLine) → AreSaid ls → AreSaid (kept_after_name ls)
said_after [] h = h
said_after (l ∷ ls) h =
    said_if (is_declared (role_of l.what)) (l ∷ kept_after_name ls) (without_passed (l ∷ ls)) (h.0, said_after ls h.1) (said_without (l ∷ ls) h)

said_from : (ls : List ProgramLine) → AreSaid ls → AreSaid (from_name ls)
said_from [] h = h
said_from (l ∷ ls) h =
    said_if (is_passed (role_of l.what)) (from_name ls) (l ∷ kept_after_name ls) (said_from ls h.1) (h.0, said_after ls h.1)

said_kept : (ls : List ProgramLine) → AreSaid ls → AreSaid (kept_lines ls)
said_kept ls h = said_if (has_name ls) (from_name ls) (kept_after_name ls) (said_from ls h) (said_after ls h)

abbrev SaidEntries : List Entry → Type 0
SaidEntries [] = Unit {0}
SaidEntries (e ∷ es) = IsSaid e.1 × SaidEntries es

said_entries : (es : List Entry) (ls : List ProgramLine) → AreEntriesOf es ls → AreSaid ls → SaidEntries es
said_entries [] ls a h = tt
said_entries (e ∷ es) [] a h = absurd a
said_entries (e ∷ es) (l ∷ ls) a h = (subst IsSaid (sym a.0.0) h.0, said_entries es ls a.1 h.1)

said_front : (es fs : List Entry) → SaidEntries (es ++ fs) → SaidEntries es
said_front [] fs h = tt
said_front (e ∷ es) fs h = (h.0, said_front es fs h.1)

said_back : (es fs : List Entry) → SaidEntries (es ++ fs) → SaidEntries fs
said_back [] fs h = h
said_back (e ∷ es) fs h = said_back es fs h.1

said_numbered : (ls : List ProgramLine) → SaidEntries (map numbered ls) → AreSaid ls
said_numbered [] h = h
said_numbered (l ∷ ls) h = (h.0, said_numbered ls h.1)

-- the declarations of a program that is spelled by lines which are said
pub declarations_said : (ls : List ProgramLine) (p : SpelledProgram) → IsSpelled ls p → AreSaid ls → AreSaid p.declarations
declarations_said ls p s h =
    let all = said_entries _ (kept_lines ls) s (said_kept ls h) in
    let front = said_front (name_lines p.name ++ map numbered p.declarations) _ (said_front _ (end_line p.finish ∷ []) all) in
    said_numbered p.declarations (said_back (name_lines p.name) (map numbered p.declarations) front)
