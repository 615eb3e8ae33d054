-- What a reading says of a line: the directive that it is, or the least reason against it.
use Rattle.std.proofs.Common.{◌≡◌, ◌≤◌, ℕ, Bool, true, false, List, [], ◌∷◌, ◌++◌, Option, Some, None, inr, refl, sym, ap, ◌∙◌, subst, arith, append-nil}
use Rattle.std.specs.Prelude.{◌≢◌, if◌then◌else◌}
use Rattle.std.proofs.lemmas.Bool.{both_ways}
use Rattle.hpf_base.specs.declared.refusal.Reason.{Reason}
use Rattle.hpf_base.specs.declared.refusal.Reason.TheVariants as reason
use Rattle.hpf_base.specs.Refusal.{IsFirstBreach, number_of}
use Rattle.syntax_tree.specs.Lexeme.{Lexeme}
use Rattle.line_forms.specs.declared.depths.Depths.{Depths}
use Rattle.line_forms.specs.declared.depths.Depths.TheVariants.{Limited, Any}
use Rattle.line_forms.specs.declared.read_error.ReadError.{ReadError}
use Rattle.line_forms.specs.declared.read_error.ReadError.TheVariants as read_error
use Rattle.line_forms.specs.Reading.{Reading, Found, Stopped, ◌>>=◌}
use Rattle.line_forms.specs.Grammar.{Value}
use Rattle.line_forms.specs.Printed.{printed, value_kept}
use Rattle.line_forms.specs.Read.{read}
use Rattle.line_forms.specs.DeepFront.{deep_front, IsTooDeep as IsTooDeepPart}
use Rattle.line_forms.specs.InFront.{Holds, IsInFront}
use Rattle.line_forms.specs.Ll1.{is_ll1, Begins, Finish}
use Rattle.line_forms.proofs.Sound.{reads}
use Rattle.line_forms.proofs.Shallow.{any_shallow}
use Rattle.line_forms.proofs.Fronts.{front_printed}
use Rattle.line_forms.proofs.Standing.{StandsAs, followed, mapped}
use Rattle.line_forms.proofs.Complete.{complete}
use Rattle.directive_reader.specs.declared.kind.Kind.{Kind}
use Rattle.directive_reader.specs.declared.kind.Kind.TheVariants as kind
use Rattle.directive_reader.specs.Forms.{DirectiveForm, Known, Passed, IsForm, form_front, form_printed, form_kept, grammar, is_passed}
use Rattle.directive_reader.specs.Reading.{directive, directive_kind, ended, known, of_kind}
use Rattle.directive_reader.specs.Breach.{IsBreachAt, IsDirective, IsDirectiveBreach, IsSpelled, IsTooDeep, WhyNotRead, is_left_out}
use Rattle.directive_reader.proofs.Kinding.{Ends, ends_begin, kind_stands}

-- what is well formed, spells the lexemes and isn't too deep, and of which a tree keeps the form
pub record Written (depths : Depths) (ts : List Lexeme) (form : DirectiveForm) : Type 0 where
  pub written : DirectiveForm
  pub well : IsForm written
  pub shallow : form_front depths written ≡ None
  pub spelled : form_printed written ≡ ts
  pub same : form_kept written ≡ form

form_in : Reading DirectiveForm → DirectiveForm → DirectiveForm
form_in (Found x) form = x.0
form_in (Stopped why) form = form

same_form : (a b : DirectiveForm) → Found (a, []) ≡ Found (b, []) → a ≡ b
unfolding form_in
same_form a b h = ap (λ r. form_in r b) h

written_known : (depths : Depths) (ts : List Lexeme) (form : DirectiveForm) (k : Kind) (r : Reading (Value (grammar k)))
    → Holds r (IsInFront depths (grammar k) ts) (IsTooDeepPart depths (grammar k) ts)
    → ((r >>= λ v. Found (Known k v.0, v.1)) >>= ended) ≡ Found (form, []) → Written depths ts form
written_known depths ts form k (Stopped why) s h = absurd cc
written_known depths ts form k (Found (v, t ∷ us)) s h = absurd cc
written_known depths ts form k (Found (v, [])) s h = record {
  written = Known k s.written;
  well = s.well;
  shallow = s.shallow;
  spelled = sym (s.parts ∙ append-nil (printed (grammar k) s.written));
  same = ap (Known k) s.same ∙ same_form (Known k v) form h;
}

written_kind : (depths : Depths) (ts : List Lexeme) (form : DirectiveForm) (o : Option Kind) → (of_kind depths o ts >>= ended) ≡ Found (form, []) → Written depths ts form
written_kind depths ts form None h = absurd cc
written_kind depths ts form (Some k) h = written_known depths ts form k (read depths (grammar k) ts) (reads depths (grammar k) ts) h

written_line : (depths : Depths) (ts : List Lexeme) (form : DirectiveForm) (b : Bool) → is_passed ts ≡ b
    → (if b then Found (Passed [], []) else (of_kind depths (directive_kind ts) ts >>= ended)) ≡ Found (form, []) → Written depths ts form
written_line depths ts form true passed h = record { written = Passed ts; well = passed; shallow = refl; spelled = refl; same = same_form (Passed []) form h }
written_line depths ts form false other h = written_kind depths ts form (directive_kind ts) h

-- what is read is spelled so
pub written : (depths : Depths) (ts : List Lexeme) (form : DirectiveForm) → directive depths ts ≡ Found (form, []) → Written depths ts form
written depths ts form h = written_line depths ts form (is_passed ts) refl h

deep_known : (ts : List Lexeme) (k : Kind) (r : Reading (Value (grammar k)))
    → Holds r (IsInFront Limited (grammar k) ts) (IsTooDeepPart Limited (grammar k) ts)
    → ((r >>= λ v. Found (Known k v.0, v.1)) >>= ended) ≡ Stopped read_error.TooDeep → IsTooDeep ts
deep_known ts k (Found (v, [])) s h = absurd cc
deep_known ts k (Found (v, t ∷ us)) s h = absurd cc
deep_known ts k (Stopped why) s h =
    let d = s (stopped_is why read_error.TooDeep h) in
    record { written = Known k d.written; well = d.well; front = d.front; deep = d.deep; rest = d.rest; parts = d.parts }
  where
    stopped_is : (a b : ReadError) → ◌≡◌ {A = Reading DirectiveForm} (Stopped a) (Stopped b) → a ≡ b
    stopped_is a b h = cc

deep_kind : (ts : List Lexeme) (o : Option Kind) → (of_kind Limited o ts >>= ended) ≡ Stopped read_error.TooDeep → IsTooDeep ts
deep_kind ts None h = absurd cc
deep_kind ts (Some k) h = deep_known ts k (read Limited (grammar k) ts) (reads Limited (grammar k) ts) h

deep_line : (ts : List Lexeme) (b : Bool) → (if b then Found (Passed [], []) else (of_kind Limited (directive_kind ts) ts >>= ended)) ≡ Stopped read_error.TooDeep → IsTooDeep ts
deep_line ts true h = absurd cc
deep_line ts false h = deep_kind ts (directive_kind ts) h

-- a reading that stops as too deep has such a front before it
pub deep_written : (ts : List Lexeme) → directive Limited ts ≡ Stopped read_error.TooDeep → IsTooDeep ts
deep_written ts h = deep_line ts (is_passed ts) h

ll1_kind : (k : Kind) → is_ll1 (grammar k) (Finish ∷ []) ≡ true
ll1_kind kind.Processors = refl
ll1_kind kind.Template = refl
ll1_kind kind.Dynamic = refl
ll1_kind (kind.Distribute false) = refl
ll1_kind (kind.Distribute true) = refl
ll1_kind (kind.Redistribute false) = refl
ll1_kind (kind.Redistribute true) = refl
ll1_kind (kind.Align false) = refl
ll1_kind (kind.Align true) = refl
ll1_kind kind.Independent = refl

module _ (depths : Depths) where
  known_reads : (k : Kind) (v : Value (grammar k)) → IsForm (Known k v) → (ts : List Lexeme) (r : Reading DirectiveForm)
      → StandsAs (deep_front depths (grammar k) v) (printed (grammar k) v) (Known k (value_kept (grammar k) v)) Ends ts r
      → (known depths k ts >>= ended) ≡ r
  known_reads k v w ts r s =
      let o = deep_front depths (grammar k) v in
      let text = printed (grammar k) v in
      let x = value_kept (grammar k) v in
      let z : DirectiveForm = Known k x in
      followed o text z z Ends (Begins (Finish ∷ [])) ts r s ends_begin (known depths k ts)
      (λ r' q. mapped o text x (Known k) (Begins (Finish ∷ [])) ts r' q (read depths (grammar k) ts) (complete depths (grammar k) (Finish ∷ []) (ll1_kind k) v w ts)) ended
      (λ us e. subst (λ us. ended (z, us) ≡ Found (z, us)) (sym e) refl)

  -- what stands in front of a line as a directive is read as it, or stops the reading
  form_reads : (w : DirectiveForm) → IsForm w → (ts : List Lexeme) (r : Reading DirectiveForm) → StandsAs (form_front depths w) (form_printed w) (form_kept w) Ends ts r → directive depths ts ≡ r
  form_reads (Passed ps) w ts r s =
      ap (λ b. if b then Found (Passed [], []) else (of_kind depths (directive_kind ts) ts >>= ended)) (ap is_passed (s.2 ∙ ap (λ l. ps ++ l) s.1 ∙ append-nil ps) ∙ w)
      ∙ ap (λ l. Found (Passed [], l)) (sym s.1) ∙ sym s.3
  form_reads (Known k v) w ts r s =
      let of = kind_stands depths (Known k (value_kept (grammar k) v)) k v w ts r s in
      ap (λ b. if b then Found (Passed [], []) else (of_kind depths (directive_kind ts) ts >>= ended)) of.1
      ∙ ap (λ o. of_kind depths o ts >>= ended) of.0 ∙ known_reads k v w ts r s

  -- what is spelled is read
  pub found : (w : DirectiveForm) → IsForm w → form_front depths w ≡ None → directive depths (form_printed w) ≡ Found (form_kept w, [])
  found w f h =
      form_reads w f (form_printed w) (Found (form_kept w, []))
      (subst (λ o. StandsAs o (form_printed w) (form_kept w) Ends (form_printed w) (Found (form_kept w, []))) (sym h) ([], refl, sym (append-nil (form_printed w)), refl))

pub deep_found : (ts : List Lexeme) → IsTooDeep ts → directive Limited ts ≡ Stopped read_error.TooDeep
deep_found ts d =
    form_reads Limited d.written d.well ts (Stopped read_error.TooDeep)
    (subst (λ o. StandsAs o (form_printed d.written) (form_kept d.written) Ends ts (Stopped read_error.TooDeep)) (sym d.deep) (d.rest, d.parts, refl))

any_form : (w : DirectiveForm) → form_front Any w ≡ None
any_form (Known k v) = any_shallow (grammar k) v
any_form (Passed ts) = refl

-- two well-formed directives that are spelled alike are one to a tree
pub one_directive : (a b : DirectiveForm) → IsForm a → IsForm b → form_printed a ≡ form_printed b → form_kept a ≡ form_kept b
one_directive a b wa wb h = same_form (form_kept a) (form_kept b) (sym (found Any a wa (any_form a)) ∙ ap (directive Any) h ∙ found Any b wb (any_form b))

is_spelled : (depths : Depths) (ts : List Lexeme) (form : DirectiveForm) → directive depths ts ≡ Found (form, []) → IsSpelled ts
is_spelled depths ts form h = let w = written depths ts form h in (w.written, w.well, w.spelled)

-- however deep, a directive that is spelled is read
stopped_so : (ts : List Lexeme) (why : ReadError) → directive Any ts ≡ Stopped why → IsSpelled ts → ⊥
stopped_so ts why h w =
    let f : Stopped why ≡ Found (form_kept w.0, []) = sym h ∙ ap (directive Any) (sym w.2) ∙ found Any w.0 w.1 (any_form w.0) in
    absurd cc

found_shallow : (ts : List Lexeme) (form : DirectiveForm) → directive Limited ts ≡ Found (form, []) → IsTooDeep ts → ⊥
found_shallow ts form h d = let e : Found (form, []) ≡ Stopped read_error.TooDeep = sym h ∙ deep_found ts d in absurd cc

form_shallow : (ts : List Lexeme) → directive Limited ts ≡ Stopped read_error.Malformed → IsTooDeep ts → ⊥
form_shallow ts h d = let e : Stopped read_error.Malformed ≡ Stopped read_error.TooDeep = sym h ∙ deep_found ts d in absurd cc

-- the front of a directive is a front of its lexemes
form_parts : (w : DirectiveForm) (front : List Lexeme) → form_front Limited w ≡ Some front → (rest : List Lexeme) × (form_printed w ≡ front ++ rest)
form_parts (Known k v) front h = front_printed Limited (grammar k) v front h
form_parts (Passed ts) front h = absurd cc

-- no directive spells a line that is malformed
unspelled : (ts : List Lexeme) → directive Limited ts ≡ Stopped read_error.Malformed → IsSpelled ts → ⊥
unspelled ts h s = at (form_front Limited s.0) refl
  where
    at : (o : Option (List Lexeme)) → form_front Limited s.0 ≡ o → ⊥
    at None f = let e : Found (form_kept s.0, []) ≡ Stopped read_error.Malformed = sym (found Limited s.0 s.1 f) ∙ ap (directive Limited) s.2 ∙ h in absurd cc
    at (Some front) f =
        let p = form_parts s.0 front f in
        form_shallow ts h (record { written = s.0; well = s.1; front = front; deep = f; rest = p.0; parts = sym s.2 ∙ p.1 })

pub is_directive : (ts : List Lexeme) (form : DirectiveForm) → directive Limited ts ≡ Found (form, []) → IsDirective ts form
is_directive ts form h = let w = written Limited ts form h in record { written = w.written; well = w.well; shallow = w.shallow; spelled = w.spelled; same = w.same }

-- a directive that is read and isn't left out breaks no rule
pub fine : (ts : List Lexeme) (form : DirectiveForm) → is_left_out ts ≡ false → directive Limited ts ≡ Found (form, []) → (r : Reason) → IsDirectiveBreach ts r → ⊥
fine ts form within h reason.LeftOut b = cc
fine ts form within h reason.BadDirective b = b.1 (is_spelled Limited ts form h)
fine ts form within h reason.Limit b = found_shallow ts form h b
fine ts form within h r b = b

-- a breach at a line of which each breach has a number that isn't less
least : (line : ℕ) (ts : List Lexeme) (r : Reason) → IsDirectiveBreach ts r → ((q : Reason) → IsDirectiveBreach ts q → number_of r ≤ number_of q)
    → IsFirstBreach (IsBreachAt line ts) record { line = line; reason = r }
least line ts r b h = record { stands = (refl, b); first = λ n q x. inr (sym x.0, h q x.1) }

-- the numbers: BadDirective is the least of the three
above_bad : (ts : List Lexeme) (q : Reason) → IsDirectiveBreach ts q → 6 ≤ number_of q
above_bad ts reason.LeftOut b = omega arith
above_bad ts reason.BadDirective b = omega arith
above_bad ts reason.Limit b = omega arith
above_bad ts q b = absurd b

above_limit : (ts : List Lexeme) → (IsDirectiveBreach ts reason.BadDirective → ⊥) → (q : Reason) → IsDirectiveBreach ts q → 10 ≤ number_of q
above_limit ts h reason.LeftOut b = omega arith
above_limit ts h reason.BadDirective b = absurd (h b)
above_limit ts h reason.Limit b = omega arith
above_limit ts h q b = absurd b

above_left_out : (ts : List Lexeme) → (IsDirectiveBreach ts reason.BadDirective → ⊥) → (IsTooDeep ts → ⊥) → (q : Reason) → IsDirectiveBreach ts q → 11 ≤ number_of q
above_left_out ts h g reason.LeftOut b = omega arith
above_left_out ts h g reason.BadDirective b = absurd (h b)
above_left_out ts h g reason.Limit b = absurd (g b)
above_left_out ts h g q b = absurd b

-- a directive that is left out, and too deep
pub left_out_deep : (line : ℕ) (ts : List Lexeme) → is_left_out ts ≡ true → directive Limited ts ≡ Stopped read_error.TooDeep
    → IsFirstBreach (IsBreachAt line ts) record { line = line; reason = reason.Limit }
left_out_deep line ts out deep = least line ts reason.Limit (deep_written ts deep) (above_limit ts (λ b. both_ways (is_left_out ts) b.0 out))

-- one that isn't too deep
left_out_first : (line : ℕ) (ts : List Lexeme) → is_left_out ts ≡ true → (IsTooDeep ts → ⊥) → IsFirstBreach (IsBreachAt line ts) record { line = line; reason = reason.LeftOut }
left_out_first line ts out h = least line ts reason.LeftOut out (above_left_out ts (λ b. both_ways (is_left_out ts) b.0 out) h)

pub left_out_found : (line : ℕ) (ts : List Lexeme) (form : DirectiveForm) → is_left_out ts ≡ true → directive Limited ts ≡ Found (form, [])
    → IsFirstBreach (IsBreachAt line ts) record { line = line; reason = reason.LeftOut }
left_out_found line ts form out h = left_out_first line ts out (found_shallow ts form h)

pub left_out_stopped : (line : ℕ) (ts : List Lexeme) → is_left_out ts ≡ true → directive Limited ts ≡ Stopped read_error.Malformed
    → IsFirstBreach (IsBreachAt line ts) record { line = line; reason = reason.LeftOut }
left_out_stopped line ts out h = left_out_first line ts out (form_shallow ts h)

-- a line that is spelled by no well-formed directive
bad : (line : ℕ) (ts : List Lexeme) → is_left_out ts ≡ false → (IsSpelled ts → ⊥) → IsFirstBreach (IsBreachAt line ts) record { line = line; reason = reason.BadDirective }
bad line ts within none = least line ts reason.BadDirective (within, none) (above_bad ts)

pub bad_form : (line : ℕ) (ts : List Lexeme) → is_left_out ts ≡ false → directive Limited ts ≡ Stopped read_error.Malformed
    → IsFirstBreach (IsBreachAt line ts) record { line = line; reason = reason.BadDirective }
bad_form line ts within h = bad line ts within (unspelled ts h)

pub bad_stopped : (line : ℕ) (ts : List Lexeme) (why : ReadError) → is_left_out ts ≡ false → directive Any ts ≡ Stopped why
    → IsFirstBreach (IsBreachAt line ts) record { line = line; reason = reason.BadDirective }
bad_stopped line ts why within h = bad line ts within (stopped_so ts why h)

-- one that is spelled by a well-formed directive, and is too deep
pub deep_first : (line : ℕ) (ts : List Lexeme) (form : DirectiveForm) → directive Limited ts ≡ Stopped read_error.TooDeep → directive Any ts ≡ Found (form, [])
    → IsFirstBreach (IsBreachAt line ts) record { line = line; reason = reason.Limit }
deep_first line ts form deep h = least line ts reason.Limit (deep_written ts deep) (above_limit ts (λ b. b.1 (is_spelled Any ts form h)))

-- what the code says that a line lacks
pub needs_form : (why : ReadError) (r : Reading DirectiveForm) → why ≡ read_error.Malformed → (why ≢ read_error.Memory → r ≡ Stopped why) → r ≡ Stopped read_error.Malformed
needs_form why r is h = subst (λ w. w ≢ read_error.Memory → r ≡ Stopped w) is h (λ e. absurd cc)

pub lacks_form : (o : Option ReadError) (r : Reading DirectiveForm) → o ≡ Some read_error.Malformed → WhyNotRead o r → r ≡ Stopped read_error.Malformed
lacks_form o r is h = subst (λ o. WhyNotRead o r) is h (λ e. absurd cc)

pub lacks_depth : (o : Option ReadError) (r : Reading DirectiveForm) → o ≡ Some read_error.TooDeep → WhyNotRead o r → r ≡ Stopped read_error.TooDeep
lacks_depth o r is h = subst (λ o. WhyNotRead o r) is h (λ e. absurd cc)
