-- What a line is answered with.
use Rattle.std.proofs.Common.{◌≡◌, ◌≤◌, ℕ, Bool, true, false, List, [], ◌∷◌, ◌++◌, map, Option, Some, None, inr, refl, sym, ap, ◌∙◌, arith}
use Rattle.std.specs.Prelude.{◌||◌, is_some}
use Rattle.std.specs.List.{list_any}
use Rattle.hpf_base.specs.declared.refusal.Reason.{Reason}
use Rattle.hpf_base.specs.declared.refusal.Reason.TheVariants.{NotAStatement, Limit, LeftOut}
use Rattle.hpf_base.specs.declared.refusal.Refusal.{Refusal}
use Rattle.hpf_base.specs.Refusal.{number_of, IsFirstBreach}
use Rattle.syntax_tree.specs.Lexeme.{Lexeme}
use Rattle.line_forms.specs.declared.depths.Depths.TheVariants.{Limited, Any}
use Rattle.line_forms.specs.declared.read_error.ReadError.{ReadError}
use Rattle.line_forms.specs.declared.read_error.ReadError.TheVariants as read_error
use Rattle.line_forms.specs.Marks.{opening, closing}
use Rattle.line_forms.specs.Parts.{bound, enclosed}
use Rattle.line_forms.specs.Grammar.{Grammar, Value, Suffixed, Optional, CommaList}
use Rattle.line_forms.specs.Printed.{printed, value_kept}
use Rattle.line_forms.specs.Reading.{Reading, Found, Stopped, ◌>>=◌}
use Rattle.line_forms.specs.DeepFront.{deep_front}
use Rattle.line_forms.proofs.Shallow.{any_shallow}
use Rattle.line_forms.proofs.Fronts.{front_printed, front_parted}
use Rattle.line_forms.proofs.Complete.{whole as read_whole}
use Rattle.statement_reader.specs.Forms.{entity, constants, dimension_key, loose_constants, grammar, if_head, StatementForm, Plain, IfOne, form_printed, form_front}
use Rattle.statement_reader.specs.Breaches.{IsSpelled, IsTooDeep, IsStatementBreach, IsBreachOn, IsStatement}
use Rattle.statement_reader.specs.Gives.{Tells}
use Rattle.statement_reader.specs.LeftOut.{IsConstantArray, IsLeftOut}
use Rattle.statement_reader.specs.Reading.{ended, has_bounds, constant_array, statement}
use Rattle.statement_reader.proofs.Steps.{steps, found_is}
use Rattle.statement_reader.proofs.Spelled.{deep_found, deep_read, form_found, form_read, whole_read}

some_kept : (ks : List Lexeme) (g : Grammar) (o : Option (Value g)) → is_some (value_kept (Optional ks g) o) ≡ is_some o
some_kept ks g None = refl
some_kept ks g (Some v) = refl

any_kept : (es : List (Value entity)) → list_any (λ e. is_some e.1.0) (map (value_kept entity) es) ≡ list_any (λ e. is_some e.1.0) es
any_kept [] = refl
any_kept (e ∷ es) = λ i. some_kept opening (Suffixed (CommaList bound) closing) e.1.0 i || any_kept es i

bounds_kept : (d : Value (constants entity)) → has_bounds (value_kept (constants entity) d) ≡ has_bounds d
bounds_kept d = λ i. some_kept dimension_key (enclosed bound) d.0 i || any_kept d.1 i

-- the constant arrays of a line are found
array_found : (ts : List Lexeme) → IsConstantArray ts → constant_array ts ≡ Found (true, [])
array_found ts a =
    ap constant_array (sym a.parts)
    ∙ ap (λ r. (r >>= ended) >>= λ d. Found (has_bounds d.0, d.1)) (read_whole Any loose_constants refl a.declared a.well (any_shallow loose_constants a.declared))
    ∙ ap (λ b. Found (b, [])) (bounds_kept a.declared ∙ a.array)

not_both : ◌≡◌ {A = Reading Bool} (Found (false, [])) (Found (true, [])) → ⊥
not_both h = let e : false ≡ true = ap (λ p. p.0) (found_is {A = Bool} (false, []) (true, []) h) in cc

not_stopped : (why : ReadError) → ◌≡◌ {A = Reading Bool} (Stopped why) (Found (true, [])) → ⊥
not_stopped why h = cc

-- what is found are constant arrays
pub array_tells : (ts : List Lexeme) (b : Bool) → constant_array ts ≡ Found (b, []) → Tells b (IsConstantArray ts)
array_tells ts false h = λ a. not_both (sym h ∙ array_found ts a)
array_tells ts true h =
    let s = steps _ (λ d. Found (has_bounds d.0, d.1)) (true, []) h in
    let w = whole_read Any loose_constants ts s.x s.was in
    let is = found_is (has_bounds s.x.0, s.x.1) (true, []) s.next in
    record { declared = w.written; well = w.well; parts = w.parts; array = sym (bounds_kept w.written) ∙ ap has_bounds w.same ∙ ap (λ p. p.0) is }

pub no_array : (ts : List Lexeme) (why : ReadError) → constant_array ts ≡ Stopped why → IsConstantArray ts → ⊥
no_array ts why h a = not_stopped why (sym h ∙ array_found ts a)

found_deep : (ts : List Lexeme) (f : StatementForm) → statement ts ≡ Found (f, []) → IsTooDeep ts → ⊥
found_deep ts f h d = let e = sym h ∙ deep_found ts d in cc

form_deep : (ts : List Lexeme) → statement ts ≡ Stopped read_error.Malformed → IsTooDeep ts → ⊥
form_deep ts h d = let e = sym h ∙ deep_found ts d in cc

-- the front of a statement is a front of its lexemes
form_parts : (w : StatementForm) (front : List Lexeme) → form_front Limited w ≡ Some front → (rest : List Lexeme) × (form_printed w ≡ front ++ rest)
form_parts (Plain k v) front h = front_printed Limited (grammar k) v front h
form_parts (IfOne cond k v) front h =
    front_parted (deep_front Limited if_head cond) (printed if_head cond) (deep_front Limited (grammar k) v) (printed (grammar k) v) front
    (front_printed Limited if_head cond) (front_printed Limited (grammar k) v) h

-- no statement spells a line that is malformed
unspelled : (ts : List Lexeme) → statement ts ≡ Stopped read_error.Malformed → IsSpelled ts → ⊥
unspelled ts h s = at (form_front Limited s.written) refl
  where
    at : (o : Option (List Lexeme)) → form_front Limited s.written ≡ o → ⊥
    at None f = let e = sym (form_found Limited s.written s.formed f) ∙ ap statement s.parts ∙ h in cc
    at (Some front) f =
        let p = form_parts s.written front f in
        form_deep ts h (record { written = s.written; formed = s.formed; front = front; deep = f; rest = p.0; parts = sym s.parts ∙ p.1 })

-- the line is a statement
pub is_statement : (ts : List Lexeme) (f : StatementForm) → statement ts ≡ Found (f, []) → (IsLeftOut ts → ⊥) → IsStatement ts f
is_statement ts f h l =
    let w = form_read ts (f, []) h in
    record { written = w.written; same = w.same; formed = w.formed; shallow = w.shallow; parts = w.parts; within = l }

-- nothing is wrong with a statement
pub no_breach : (ts : List Lexeme) (f : StatementForm) → statement ts ≡ Found (f, []) → (IsLeftOut ts → ⊥) → (reason : Reason) → IsStatementBreach ts reason → ⊥
no_breach ts f h l NotAStatement n = let w = form_read ts (f, []) h in n.0 (record { written = w.written; formed = w.formed; parts = w.parts })
no_breach ts f h l Limit d = found_deep ts f h d
no_breach ts f h l LeftOut x = l x
no_breach ts f h l reason x = x

abbrev first_of : ℕ → Reason → Refusal
first_of line reason = record { line = line; reason = reason }

first_is : (line : ℕ) (ts : List Lexeme) (reason : Reason) → IsStatementBreach ts reason
    → ((other : Reason) → IsStatementBreach ts other → number_of reason ≤ number_of other) → IsFirstBreach (IsBreachOn line ts) (first_of line reason)
first_is line ts reason stands least = record {
  stands = (refl, stands);
  first = λ n other b. inr (sym b.0, least other b.1);
}

-- too deep
pub deep_first : (line : ℕ) (ts : List Lexeme) → statement ts ≡ Stopped read_error.TooDeep → IsFirstBreach (IsBreachOn line ts) (first_of line Limit)
deep_first line ts h = first_is line ts Limit (deep_read ts h) least
  where
    least : (other : Reason) → IsStatementBreach ts other → number_of Limit ≤ number_of other
    least NotAStatement n = absurd (n.2 (deep_read ts h))
    least Limit d = omega arith
    least LeftOut l = omega arith
    least other x = absurd x

-- left out, and not too deep
left_out_first : (line : ℕ) (ts : List Lexeme) → (IsTooDeep ts → ⊥) → IsLeftOut ts → IsFirstBreach (IsBreachOn line ts) (first_of line LeftOut)
left_out_first line ts h l = first_is line ts LeftOut l least
  where
    least : (other : Reason) → IsStatementBreach ts other → number_of LeftOut ≤ number_of other
    least NotAStatement n = absurd (n.1 l)
    least Limit d = absurd (h d)
    least LeftOut l = omega arith
    least other x = absurd x

pub found_left_out : (line : ℕ) (ts : List Lexeme) (f : StatementForm) → statement ts ≡ Found (f, []) → IsLeftOut ts → IsFirstBreach (IsBreachOn line ts) (first_of line LeftOut)
found_left_out line ts f h l = left_out_first line ts (found_deep ts f h) l

pub unread_left_out : (line : ℕ) (ts : List Lexeme) → statement ts ≡ Stopped read_error.Malformed → IsLeftOut ts → IsFirstBreach (IsBreachOn line ts) (first_of line LeftOut)
unread_left_out line ts h l = left_out_first line ts (form_deep ts h) l

-- neither
pub unread_first : (line : ℕ) (ts : List Lexeme) → statement ts ≡ Stopped read_error.Malformed → (IsLeftOut ts → ⊥)
    → IsFirstBreach (IsBreachOn line ts) (first_of line NotAStatement)
unread_first line ts h l = first_is line ts NotAStatement (unspelled ts h, l, form_deep ts h) least
  where
    least : (other : Reason) → IsStatementBreach ts other → number_of NotAStatement ≤ number_of other
    least NotAStatement n = omega arith
    least Limit d = omega arith
    least LeftOut l = omega arith
    least other x = absurd x
