-- What spells a statement is read as it, and what is read is spelled so; the same of a line that is too deep.
use Rattle.std.proofs.Common.{◌≡◌, Bool, true, false, List, [], ◌∷◌, ◌++◌, drop, Option, Some, None, ⊎_elim, refl, sym, ap, ◌∙◌, subst, append-nil, append_assoc}
use Rattle.std.specs.Prelude.{codes, if◌then◌else◌}
use Rattle.syntax_tree.specs.Lexeme.{Lexeme}
use Rattle.syntax_tree.specs.Expression.{Expression, kept}
use Rattle.syntax_tree.specs.Spelling.{IsFormed}
use Rattle.line_forms.specs.declared.depths.Depths.{Depths}
use Rattle.line_forms.specs.declared.depths.Depths.TheVariants.{Limited, Any}
use Rattle.line_forms.specs.declared.read_error.ReadError.TheVariants as read_error
use Rattle.line_forms.specs.InFront.{On, IsInFront}
use Rattle.line_forms.specs.Marks.{starts, key}
use Rattle.line_forms.specs.Reading.{Reading, Found, Stopped, ◌>>=◌}
use Rattle.line_forms.specs.Grammar.{Grammar, Value}
use Rattle.line_forms.specs.Read.{read}
use Rattle.line_forms.specs.Printed.{printed, IsWell, value_kept}
use Rattle.line_forms.specs.DeepFront.{preceded, front_or, deep_front}
use Rattle.line_forms.specs.Ll1.{Begins, Exactly, Finish, Operand}
use Rattle.line_forms.proofs.Sound.{sound, deep_sound, sample, starts_split}
use Rattle.line_forms.proofs.Shallow.{any_shallow}
use Rattle.line_forms.proofs.Standing.{StandsAs, after_prefix, then_reads, then_begins, followed, mapped}
use Rattle.line_forms.proofs.Complete.{complete}
use Rattle.statement_reader.specs.declared.kind.Kind.{Kind}
use Rattle.statement_reader.specs.declared.kind.Kind.TheVariants as kind
use Rattle.statement_reader.specs.Breaches.{IsTooDeep}
use Rattle.statement_reader.specs.FirstWords.{statement_kind}
use Rattle.statement_reader.specs.Forms.{grammar, assignment, condition, forall_head, if_head, is_action, StatementForm, Plain, IfOne, as_kept, form_printed, form_kept, form_front, IsForm}
use Rattle.statement_reader.specs.Views.{IsOfKind}
use Rattle.statement_reader.specs.Reading.{is_nothing, ended, whole_of, whole, line, is_action_kind, acting, if_rest, if_line, line_of, reading, statement}
use Rattle.statement_reader.proofs.Steps.{steps, stops, found_is}
use Rattle.statement_reader.proofs.Kinding.{ll1_grammar, Ends, ends_begin, kind_stands, worded, begins_operand, no_then}

action_is : (k : Kind) (v : Value (grammar k)) → is_action k v ≡ true → is_action_kind k ≡ true
action_is kind.Assign v a = refl
action_is kind.Where v a = refl
action_is kind.Forall v a = refl
action_is kind.Print v a = refl
action_is kind.Stop v a = refl
action_is kind.Exit v a = refl
action_is kind.Cycle v a = refl
action_is kind.Continue v a = refl
action_is k v a = absurd cc

-- what a tree keeps of an action is one, and only of an action
pub action_kept : (k : Kind) (v : Value (grammar k)) → is_action k (value_kept (grammar k) v) ≡ is_action k v
action_kept kind.Where (mask, None) = refl
action_kept kind.Where (mask, Some one) = refl
action_kept kind.Forall (head, None) = refl
action_kept kind.Forall (head, Some one) = refl
action_kept k v = refl

or_none : (o : Option (List Lexeme)) (text : List Lexeme) → front_or o text None ≡ o
or_none None text = refl
or_none (Some front) text = refl

ended_at : {A : Type 0} (x : A) (us : List Lexeme) → Ends us → ended (x, us) ≡ Found (x, us)
ended_at x us e = subst (λ us. ended (x, us) ≡ Found (x, us)) (sym e) refl

module _ (depths : Depths) where
  -- lexemes in front of which a statement stands, and nothing after it
  abbrev pub FormStands : StatementForm → List Lexeme → Reading StatementForm → Type 0
  FormStands w ts r = StandsAs (form_front depths w) (form_printed w) (form_kept w) Ends ts r

  whole_reads : (k : Kind) (v : Value (grammar k)) → IsWell (grammar k) v → (ts : List Lexeme) (r : Reading (Value (grammar k)))
      → StandsAs (deep_front depths (grammar k) v) (printed (grammar k) v) (value_kept (grammar k) v) Ends ts r → whole depths k ts ≡ r
  whole_reads k v w ts r s =
      let x = value_kept (grammar k) v in
      followed (deep_front depths (grammar k) v) (printed (grammar k) v) x x Ends (Begins (Finish ∷ [])) ts r s ends_begin
      (read depths (grammar k) ts) (complete depths (grammar k) (Finish ∷ []) (ll1_grammar k) v w ts) ended (ended_at x)

  line_reads : (k : Kind) (v : Value (grammar k)) → IsWell (grammar k) v → (ts : List Lexeme) (r : Reading StatementForm) → FormStands (Plain k v) ts r → line depths k ts ≡ r
  line_reads k v w ts r s =
      mapped (deep_front depths (grammar k) v) (printed (grammar k) v) (value_kept (grammar k) v) (as_kept k) Ends ts r s (whole depths k ts)
      (whole_reads k v w ts)

  if_then_reads : (cond : Expression) → IsFormed cond → (ts : List Lexeme) (r : Reading StatementForm)
      → StandsAs (deep_front depths if_head cond) (printed if_head cond ++ key (codes "THEN")) (Plain kind.IfThen (kept cond)) Ends ts r
      → if_line depths ts ≡ r
  if_then_reads cond w ts r s =
      let o = deep_front depths if_head cond in
      let text = printed if_head cond in
      let z : StatementForm = Plain kind.IfThen (kept cond) in
      then_reads o text (kept cond) (Begins (Exactly (key (codes "THEN")) ∷ [])) None (key (codes "THEN")) z Ends ts r
      (subst (λ o. StandsAs o (text ++ key (codes "THEN")) z Ends ts r) (sym (or_none o text)) s)
      (read depths if_head ts) (complete depths if_head (Exactly (key (codes "THEN")) ∷ []) refl cond w ts) (λ c. if_rest depths c.0 c.1)
      (λ us q. subst (Begins (Exactly (key (codes "THEN")) ∷ [])) (sym q.2) refl)
      (λ us _ q. ap (if_rest depths (kept cond)) q.2 ∙ ended_at z q.0 q.1 ∙ sym q.3)

  at_kind : (k : Kind) (v : Value (grammar k)) → IsWell (grammar k) v → (ts : List Lexeme) (r : Reading StatementForm) → FormStands (Plain k v) ts r → line_of depths k ts ≡ r
  at_kind kind.IfThen v w ts r s = if_then_reads v w ts r s
  at_kind k v w ts r s = line_reads k v w ts r s

  acting_reads : (k : Kind) (v : Value (grammar k)) → is_action k v ≡ true → IsWell (grammar k) v → (ts : List Lexeme) (r : Reading IsOfKind)
      → StandsAs (deep_front depths (grammar k) v) (printed (grammar k) v) (k, value_kept (grammar k) v) Ends ts r → acting depths k ts ≡ r
  acting_reads k v a w ts r s =
      let x = value_kept (grammar k) v in
      let z : IsOfKind = (k, x) in
      let then_acts = λ (u : Value (grammar k) × List Lexeme). if is_action k u.0 then Found ((k, u.0), u.1) else Stopped read_error.Malformed in
      ap (λ b. if b then (whole depths k ts >>= then_acts) else Stopped read_error.Malformed) (action_is k v a)
      ∙ followed (deep_front depths (grammar k) v) (printed (grammar k) v) x z Ends Ends ts r s (λ us e. e) (whole depths k ts) (whole_reads k v w ts) then_acts
      (λ us e. ap (λ b. if b then Found (z, us) else Stopped read_error.Malformed) (action_kept k v ∙ a))

  if_one_reads : (cond : Expression) (k : Kind) (v : Value (grammar k)) → IsFormed cond → is_action k v ≡ true → IsWell (grammar k) v
      → (ts : List Lexeme) (r : Reading StatementForm) → FormStands (IfOne cond k v) ts r → if_line depths ts ≡ r
  if_one_reads cond k v c a w ts r s =
      let p = deep_front depths (grammar k) v in
      let text = printed (grammar k) v in
      let x = value_kept (grammar k) v in
      let z : StatementForm = IfOne (kept cond) k x in
      let one = λ (a : IsOfKind × List Lexeme). Found (IfOne (kept cond) a.0.0 a.0.1, a.1) in
      then_reads (deep_front depths if_head cond) (printed if_head cond) (kept cond) (Begins (Operand ∷ [])) p text z Ends ts r s
      (read depths if_head ts) (complete depths if_head (Operand ∷ []) refl cond c ts) (λ c. if_rest depths c.0 c.1)
      (λ us q. begins_operand depths z us (worded depths z k v a w us r q))
      (λ us _ q.
      ap (λ b. if b then ended (Plain kind.IfThen (kept cond), drop 1 us) else (acting depths (statement_kind us) us >>= one))
      (no_then depths z us (worded depths z k v a w us r q))
      ∙ ap (λ k. acting depths k us >>= one) (kind_stands depths z k v w us r q)
      ∙ mapped p text (k, x) (λ a. IfOne (kept cond) a.0 a.1) Ends us r q (acting depths k us) (acting_reads k v a w us))

  -- what stands in front of a line as a statement is read as it, or stops the reading
  form_reads : (w : StatementForm) → IsForm w → (ts : List Lexeme) (r : Reading StatementForm) → FormStands w ts r → reading depths ts ≡ r
  form_reads (Plain k v) w ts r s = ap (λ j. line_of depths j ts) (kind_stands depths (form_kept (Plain k v)) k v w ts r s) ∙ at_kind k v w ts r s
  form_reads (IfOne cond k v) w ts r s =
      let z : StatementForm = form_kept (IfOne cond k v) in
      let is_if : statement_kind ts ≡ kind.IfThen =
      then_begins {Q = statement_kind ts ≡ kind.IfThen} (deep_front depths if_head cond) (printed if_head cond) z (λ us. Unit {0})
      (deep_front depths (grammar k) v) (printed (grammar k) v) z Ends ts r s
      (λ r' q.
      let p = after_prefix (key (codes "IF")) (deep_front depths condition cond) (printed condition cond) z (λ us. Unit {0}) ts r' q in
      ap statement_kind p.1) (λ us q. tt)
      in
      ap (λ j. line_of depths j ts) is_if ∙ if_one_reads cond k v w.0 w.1 w.2 ts r s

  pub form_found : (w : StatementForm) → IsForm w → form_front depths w ≡ None → reading depths (form_printed w) ≡ Found (form_kept w, [])
  form_found w f h =
      form_reads w f (form_printed w) (Found (form_kept w, []))
      (subst (λ o. StandsAs o (form_printed w) (form_kept w) Ends (form_printed w) (Found (form_kept w, []))) (sym h) ([], refl, sym (append-nil (form_printed w)), refl))

pub deep_found : (ts : List Lexeme) → IsTooDeep ts → statement ts ≡ Stopped read_error.TooDeep
deep_found ts d =
    form_reads Limited d.written d.formed ts (Stopped read_error.TooDeep)
    (subst (λ o. StandsAs o (form_printed d.written) (form_kept d.written) Ends ts (Stopped read_error.TooDeep)) (sym d.deep) (d.rest, d.parts, refl))

any_form : (w : StatementForm) → form_front Any w ≡ None
any_form (Plain k v) = any_shallow (grammar k) v
any_form (IfOne cond k v) = λ i. front_or (any_shallow if_head cond i) (printed if_head cond) (any_shallow (grammar k) v i)

-- a tree keeps the same of two well-formed statements that have one spelling
pub one_form : (a b : StatementForm) → IsForm a → IsForm b → form_printed a ≡ form_printed b → form_kept a ≡ form_kept b
one_form a b wa wb is =
    ap (λ x. x.0) (found_is (form_kept a, []) (form_kept b, []) (sym (form_found Any a wa (any_form a)) ∙ ap (reading Any) is ∙ form_found Any b wb (any_form b)))

-- a line that is read by a grammar
pub record WholeRead (depths : Depths) (g : Grammar) (ts : List Lexeme) (x : Value g × List Lexeme) : Type 0 where
  pub written : Value g
  pub same : value_kept g written ≡ x.0
  pub well : IsWell g written
  pub shallow : deep_front depths g written ≡ None
  pub parts : printed g written ≡ ts
  pub end : x.1 ≡ []

nothing_is : (us : List Lexeme) → is_nothing us ≡ true → us ≡ []
nothing_is [] h = refl
nothing_is (t ∷ us) h = absurd cc

pub record Closed {A : Type 0} (x y : A × List Lexeme) : Type 0 where
  pub value : x.0 ≡ y.0
  pub done : x.1 ≡ []
  pub end : y.1 ≡ []

ended_found : {A : Type 0} (x y : A × List Lexeme) → ended x ≡ Found y → Closed x y
ended_found x y h = by_test (is_nothing x.1) refl h
  where
    by_test : (b : Bool) → is_nothing x.1 ≡ b → (if b then Found (x.0, []) else Stopped read_error.Malformed) ≡ Found y → Closed x y
    by_test true e h = let is = found_is (x.0, []) y h in record { value = ap (λ p. p.0) is; done = nothing_is x.1 e; end = sym (ap (λ p. p.1) is) }
    by_test false e h = absurd cc

ended_shallow : {A : Type 0} (x : A × List Lexeme) → ended x ≡ Stopped read_error.TooDeep → ⊥
ended_shallow x h = by_test (is_nothing x.1) h
  where
    by_test : (b : Bool) → (if b then Found (x.0, []) else Stopped read_error.Malformed) ≡ Stopped read_error.TooDeep → ⊥
    by_test true h = cc
    by_test false h = cc

pub whole_read : (depths : Depths) (g : Grammar) (ts : List Lexeme) (y : Value g × List Lexeme) → whole_of depths g ts ≡ Found y → WholeRead depths g ts y
whole_read depths g ts y h =
    let s = steps (read depths g ts) ended y h in
    let c = ended_found s.x y s.next in
    let w : IsInFront depths g ts s.x = subst (λ r. On r (IsInFront depths g ts)) s.was (sound depths g ts) in
    record {
      written = w.written;
      same = w.same ∙ c.value;
      well = w.well;
      shallow = w.shallow;
      parts = sym (w.parts ∙ ap (λ l. printed g w.written ++ l) c.done ∙ append-nil (printed g w.written));
      end = c.end;
    }

whole_deep : (k : Kind) (ts : List Lexeme) → whole Limited k ts ≡ Stopped read_error.TooDeep → read Limited (grammar k) ts ≡ Stopped read_error.TooDeep
whole_deep k ts h = ⊎_elim (λ d. d) (λ s. absurd (ended_shallow s.0 s.2)) (stops (read Limited (grammar k) ts) ended read_error.TooDeep h)

-- a line that is read is spelled by a statement
pub record IsReadAs (ts : List Lexeme) (y : StatementForm × List Lexeme) : Type 0 where
  pub written : StatementForm
  pub same : form_kept written ≡ y.0
  pub formed : IsForm written
  pub shallow : form_front Limited written ≡ None
  pub parts : form_printed written ≡ ts
  pub end : y.1 ≡ []

line_read : (k : Kind) (ts : List Lexeme) (y : StatementForm × List Lexeme) → line Limited k ts ≡ Found y → IsReadAs ts y
line_read k ts y h =
    let s = steps (whole Limited k ts) (λ v. Found (as_kept k v.0, v.1)) y h in
    let w = whole_read Limited (grammar k) ts s.x s.was in
    let is = found_is (as_kept k s.x.0, s.x.1) y s.next in
    record {
      written = Plain k w.written;
      same = ap (as_kept k) w.same ∙ ap (λ p. p.0) is;
      formed = w.well;
      shallow = w.shallow;
      parts = w.parts;
      end = sym (ap (λ p. p.1) is) ∙ w.end;
    }

line_deep : (k : Kind) (ts : List Lexeme) → line Limited k ts ≡ Stopped read_error.TooDeep → IsTooDeep ts
line_deep k ts h =
    let deep = ⊎_elim (λ d. d) (λ s. absurd (no_stop s.0 s.2)) (stops (whole Limited k ts) (λ v. Found (as_kept k v.0, v.1)) read_error.TooDeep h) in
    let d = deep_sound Limited (grammar k) ts (whole_deep k ts deep) in
    record { written = Plain k d.written; formed = d.well; front = d.front; deep = d.deep; rest = d.rest; parts = d.parts }
  where
    no_stop : (x : Value (grammar k) × List Lexeme) → Found (as_kept k x.0, x.1) ≡ Stopped read_error.TooDeep → ⊥
    no_stop x h = cc

pub record IsActed (ts : List Lexeme) (y : IsOfKind × List Lexeme) : Type 0 where
  pub written : Value (grammar y.0.0)
  pub same : value_kept (grammar y.0.0) written ≡ y.0.1
  pub action : is_action y.0.0 written ≡ true
  pub well : IsWell (grammar y.0.0) written
  pub shallow : deep_front Limited (grammar y.0.0) written ≡ None
  pub parts : printed (grammar y.0.0) written ≡ ts
  pub end : y.1 ≡ []

acting_read : (k : Kind) (ts : List Lexeme) (y : IsOfKind × List Lexeme) → acting Limited k ts ≡ Found y → IsActed ts y
acting_read k ts y h = by_kind (is_action_kind k) h
  where
    by_action : (u : Value (grammar k) × List Lexeme) → WholeRead Limited (grammar k) ts u → (b : Bool) → is_action k u.0 ≡ b
        → (if b then Found ((k, u.0), u.1) else Stopped read_error.Malformed) ≡ Found y → IsActed ts y
    by_action u w true a h =
        let is = found_is ((k, u.0), u.1) y h in
        subst (IsActed ts) is (record {
          written = w.written;
          same = w.same;
          action = sym (action_kept k w.written) ∙ ap (is_action k) w.same ∙ a;
          well = w.well;
          shallow = w.shallow;
          parts = w.parts;
          end = w.end;
        })
    by_action u w false a h = absurd cc

    by_kind : (b : Bool)
        → (if b
        then (whole Limited k ts >>= λ v. if is_action k v.0 then Found ((k, v.0), v.1) else Stopped read_error.Malformed)
        else Stopped read_error.Malformed) ≡ Found y → IsActed ts y
    by_kind true h =
        let s = steps (whole Limited k ts) (λ v. if is_action k v.0 then Found ((k, v.0), v.1) else Stopped read_error.Malformed) y h in
        by_action s.x (whole_read Limited (grammar k) ts s.x s.was) (is_action k s.x.0) refl s.next
    by_kind false h = absurd cc

-- an action that is too deep; where a WHERE or FORALL has no assignment, one may stand after the front
record ActsDeep (k : Kind) (front : List Lexeme) : Type 0 where
  written : Value (grammar k)
  action : is_action k written ≡ true
  well : IsWell (grammar k) written
  deep : deep_front Limited (grammar k) written ≡ Some front

or_other : (ks : List Lexeme) (o : Option (List Lexeme)) (text : List Lexeme) (p : Option (List Lexeme)) (front : List Lexeme)
    → preceded ks (front_or o text None) ≡ Some front → preceded ks (front_or o text p) ≡ Some front
or_other ks None text p front h = absurd cc
or_other ks (Some l) text p front h = h

completed : (k : Kind) (v : Value (grammar k)) → is_action_kind k ≡ true → IsWell (grammar k) v → (front : List Lexeme)
    → deep_front Limited (grammar k) v ≡ Some front → ActsDeep k front
completed kind.Assign v a w front d = record { written = v; action = refl; well = w; deep = d }
completed kind.Where (mask, None) a w front d =
    let one = sample assignment in
    record {
      written = (mask, Some one.0);
      action = refl;
      well = (w.0, one.1);
      deep =
          or_other (key (codes "WHERE")) (deep_front Limited condition mask) (printed condition mask) (deep_front Limited assignment one.0) front d;
    }
completed kind.Where (mask, Some one) a w front d = record { written = (mask, Some one); action = refl; well = w; deep = d }
completed kind.Forall (head, None) a w front d =
    let one = sample assignment in
    record {
      written = (head, Some one.0);
      action = refl;
      well = (w.0, one.1);
      deep =
          or_other (key (codes "FORALL")) (deep_front Limited forall_head head) (printed forall_head head) (deep_front Limited assignment one.0) front
          d;
    }
completed kind.Forall (head, Some one) a w front d = record { written = (head, Some one); action = refl; well = w; deep = d }
completed kind.Print v a w front d = record { written = v; action = refl; well = w; deep = d }
completed kind.Stop v a w front d = record { written = v; action = refl; well = w; deep = d }
completed kind.Exit v a w front d = record { written = v; action = refl; well = w; deep = d }
completed kind.Cycle v a w front d = record { written = v; action = refl; well = w; deep = d }
completed kind.Continue v a w front d = record { written = v; action = refl; well = w; deep = d }
completed k v a w front d = absurd cc

abbrev then_acts : (k : Kind) → Value (grammar k) × List Lexeme → Reading IsOfKind
then_acts k v = if is_action k v.0 then Found ((k, v.0), v.1) else Stopped read_error.Malformed

acting_deep : (k : Kind) (ts : List Lexeme) → acting Limited k ts ≡ Stopped read_error.TooDeep → (front rest : List Lexeme) × ActsDeep k front × (ts ≡ front ++ rest)
acting_deep k ts h = by_kind (is_action_kind k) refl h
  where
    no_stop : (x : Value (grammar k) × List Lexeme) (b : Bool)
        → ◌≡◌ {A = Reading IsOfKind} (if b then Found ((k, x.0), x.1) else Stopped read_error.Malformed) (Stopped read_error.TooDeep) → ⊥
    no_stop x true h = cc
    no_stop x false h = cc

    by_kind : (b : Bool) → is_action_kind k ≡ b
        → (if b then (whole Limited k ts >>= then_acts k) else Stopped read_error.Malformed) ≡ Stopped read_error.TooDeep
        → (front rest : List Lexeme) × ActsDeep k front × (ts ≡ front ++ rest)
    by_kind true a h =
        let deep = ⊎_elim (λ d. d) (λ s. absurd (no_stop s.0 (is_action k s.0.0) s.2)) (stops (whole Limited k ts) (then_acts k) read_error.TooDeep h) in
        let d = deep_sound Limited (grammar k) ts (whole_deep k ts deep) in
        (d.front, d.rest, completed k d.written a d.well d.front d.deep, d.parts)
    by_kind false a h = absurd cc

if_read : (ts : List Lexeme) (y : StatementForm × List Lexeme) → if_line Limited ts ≡ Found y → IsReadAs ts y
if_read ts y h =
    let s = steps (read Limited if_head ts) (λ c. if_rest Limited c.0 c.1) y h in
    let w : IsInFront Limited if_head ts s.x = subst (λ r. On r (IsInFront Limited if_head ts)) s.was (sound Limited if_head ts) in
    by_then s.x w (starts (key (codes "THEN")) s.x.1) refl s.next
  where
    by_then : (x : Expression × List Lexeme) → IsInFront Limited if_head ts x → (b : Bool) → starts (key (codes "THEN")) x.1 ≡ b
        → (if b
        then ended (Plain kind.IfThen x.0, drop 1 x.1)
        else (acting Limited (statement_kind x.1) x.1 >>= λ a. Found (IfOne x.0 a.0.0 a.0.1, a.1))) ≡ Found y → IsReadAs ts y
    by_then x w true e h =
        let c = ended_found (Plain kind.IfThen x.0, drop 1 x.1) y h in
        let rest : x.1 ≡ key (codes "THEN") = starts_split (key (codes "THEN")) x.1 e ∙ ap (λ l. key (codes "THEN") ++ l) c.done in
        record {
          written = Plain kind.IfThen w.written;
          same = ap (Plain kind.IfThen) w.same ∙ c.value;
          formed = w.well;
          shallow = w.shallow;
          parts = sym (w.parts ∙ ap (λ l. printed if_head w.written ++ l) rest);
          end = c.end;
        }
    by_then x w false e h =
        let s = steps (acting Limited (statement_kind x.1) x.1) (λ a. Found (IfOne x.0 a.0.0 a.0.1, a.1)) y h in
        let a = acting_read (statement_kind x.1) x.1 s.x s.was in
        let is = found_is (IfOne x.0 s.x.0.0 s.x.0.1, s.x.1) y s.next in
        record {
          written = IfOne w.written s.x.0.0 a.written;
          same = (λ i. IfOne (w.same i) s.x.0.0 (a.same i)) ∙ ap (λ p. p.0) is;
          formed = (w.well, a.action, a.well);
          shallow = λ i. front_or (w.shallow i) (printed if_head w.written) (a.shallow i);
          parts = sym (w.parts ∙ ap (λ l. printed if_head w.written ++ l) (sym a.parts));
          end = sym (ap (λ p. p.1) is) ∙ a.end;
        }

if_deep : (ts : List Lexeme) → if_line Limited ts ≡ Stopped read_error.TooDeep → IsTooDeep ts
if_deep ts h =
    ⊎_elim
    (λ e.
    let d = deep_sound Limited if_head ts e in
    record { written = Plain kind.IfThen d.written; formed = d.well; front = d.front; deep = d.deep; rest = d.rest; parts = d.parts })
    (λ s. by_then s.0 (subst (λ r. On r (IsInFront Limited if_head ts)) s.1 (sound Limited if_head ts)) (starts (key (codes "THEN")) s.0.1) s.2)
    (stops (read Limited if_head ts) (λ c. if_rest Limited c.0 c.1) read_error.TooDeep h)
  where
    no_stop : (x : Expression) (a : IsOfKind × List Lexeme) → Found (IfOne x a.0.0 a.0.1, a.1) ≡ Stopped read_error.TooDeep → ⊥
    no_stop x a h = cc

    by_then : (x : Expression × List Lexeme) → IsInFront Limited if_head ts x → (b : Bool)
        → (if b
        then ended (Plain kind.IfThen x.0, drop 1 x.1)
        else (acting Limited (statement_kind x.1) x.1 >>= λ a. Found (IfOne x.0 a.0.0 a.0.1, a.1))) ≡ Stopped read_error.TooDeep → IsTooDeep ts
    by_then x w true h = absurd (ended_shallow (Plain kind.IfThen x.0, drop 1 x.1) h)
    by_then x w false h =
        let deep =
        ⊎_elim (λ d. d) (λ s. absurd (no_stop x.0 s.0 s.2))
        (stops (acting Limited (statement_kind x.1) x.1) (λ a. Found (IfOne x.0 a.0.0 a.0.1, a.1)) read_error.TooDeep h) in
        let a = acting_deep (statement_kind x.1) x.1 deep in
        let one = a.2 in
        let head = printed if_head w.written in
        record {
          written = IfOne w.written (statement_kind x.1) one.written;
          formed = (w.well, one.action, one.well);
          front = head ++ a.0;
          deep = λ i. front_or (w.shallow i) head (one.deep i);
          rest = a.1;
          parts = w.parts ∙ ap (λ l. head ++ l) a.3 ∙ sym (append_assoc head a.0 a.1);
        }

kind_read : (k : Kind) (ts : List Lexeme) (y : StatementForm × List Lexeme) → line_of Limited k ts ≡ Found y → IsReadAs ts y
kind_read kind.IfThen ts y h = if_read ts y h
kind_read k ts y h = line_read k ts y h

kind_deep : (k : Kind) (ts : List Lexeme) → line_of Limited k ts ≡ Stopped read_error.TooDeep → IsTooDeep ts
kind_deep kind.IfThen ts h = if_deep ts h
kind_deep k ts h = line_deep k ts h

pub form_read : (ts : List Lexeme) (y : StatementForm × List Lexeme) → statement ts ≡ Found y → IsReadAs ts y
form_read ts y h = kind_read (statement_kind ts) ts y h

pub deep_read : (ts : List Lexeme) → statement ts ≡ Stopped read_error.TooDeep → IsTooDeep ts
deep_read ts h = kind_deep (statement_kind ts) ts h
