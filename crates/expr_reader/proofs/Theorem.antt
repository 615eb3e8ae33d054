-- The laws of reading: one expression for each spelling, and the longest.
use Rattle.std.proofs.Common.{◌≡◌, ◌≤◌, ◌<◌, ◌↔◌, ℕ, ◌+◌, List, [], ◌∷◌, ◌++◌, length, drop, Option, Some, None, Bool, false, IsTrue, ⊎_elim, refl, sym, ap, ◌∙◌, subst, arith, append-nil}
use Rattle.std.specs.Prelude.{max}
use Rattle.std.proofs.lemmas.Bool.{cases_lt}
use Rattle.syntax_tree.specs.Lexeme.{Lexeme}
use Rattle.syntax_tree.specs.Operators.{level}
use Rattle.syntax_tree.specs.Expression.{Expression, Number, Truth, Name, Element, Call, Unary, Binary, Closed, Part, One, Range, Glued, Parts, End, More, Maybe, Absent, Present, kept, part_kept, all_kept, maybe_kept}
use Rattle.syntax_tree.specs.Spelling.{spelling, IsFormed, depth, part_depth, list_depth, maybe_depth}
use Rattle.expr_reader.specs.Reading.{◌>>=◌, reading, apart}
use Rattle.expr_reader.specs.Spelled.{Spelled, Ifs}
use Rattle.expr_reader.specs.Longest.{IsLongest, NoneBegins}
use Rattle.expr_reader.specs.Front.{front, Ends, IsFront, IsAsDeep}
use Rattle.expr_reader.proofs.Sound.{sound, drop_taken}
use Rattle.expr_reader.proofs.Operands.{Finds, finds, Stops, inner}
use Rattle.expr_reader.proofs.Complete.{comes}
use Rattle.expr_reader.proofs.Apart.{mapped, agree}

some_is : (x y : Expression × ℕ) → Some x ≡ Some y → x ≡ y
some_is x y h = cc

found_at : (e : Expression) → IsFormed e → (rest : List Lexeme) → Finds 0 e rest
found_at e w rest = finds 0 e rest (omega arith) (omega arith) (comes e w rest)

all_read : (e : Expression) → IsFormed e → (reading Glued (spelling e)).core.expr 0 ≡ Some (e, length (spelling e))
all_read e w =
    let f = found_at e w [] in
    ap (λ ts. (reading Glued ts).core.expr 0) (sym (append-nil (spelling e))) ∙ f.reads ∙ ap Some (f.exact tt tt)

-- at most one well-formed expression has a spelling
pub one_expression : (a b : Expression) → IsFormed a → IsFormed b → spelling a ≡ spelling b → a ≡ b
one_expression a b wa wb h =
    let e : ◌≡◌ {A = Option (Expression × ℕ)} (Some (a, length (spelling a))) (Some (b, length (spelling b))) =
    sym (all_read a wa) ∙ ap (λ ts. (reading Glued ts).core.expr 0) h ∙ all_read b wb in
    ap (λ p. p.0) (some_is _ _ e)

longest : (ts : List Lexeme) (x : Expression × ℕ) → Some x ≡ (reading Glued ts).core.expr 0 → IsLongest ts x
longest ts x h = record {
  spelled = subst (λ o. Ifs o (Spelled 0 ts)) (sym h) ((sound ts).expr 0 (omega arith));
  longest = λ e rest w is.
      let f = found_at e w rest in
      let same : Some x ≡ Some f.found = h ∙ ap (λ ts. (reading Glued ts).core.expr 0) is ∙ f.reads in
      let same' : f.found ≡ x = cc in
      subst (λ x. length (spelling e) ≤ x.1) same' f.long;
}

-- what is written, of what a tree keeps
pub record Written (ts : List Lexeme) (x : Expression × ℕ) : Type 0 where
  pub written : Expression
  pub same : kept written ≡ x.0
  pub longest : IsLongest ts (written, x.1)

pub written : (ts : List Lexeme) (x : Expression × ℕ) → Some x ≡ (reading apart ts).core.expr 0 → Written ts x
written ts x h = found ((reading Glued ts).core.expr 0) refl (h ∙ sym ((agree ts).expr 0))
  where
    found : (o : Option (Expression × ℕ)) → o ≡ (reading Glued ts).core.expr 0 → Some x ≡ mapped kept o → Written ts x
    found None e h = absurd cc
    found (Some w) e h =
        let is : (kept w.0, w.1) ≡ x = sym (some_is _ _ h) in
        record { written = w.0; same = ap (λ x. x.0) is; longest = subst (λ n. IsLongest ts (w.0, n)) (ap (λ x. x.1) is) (longest ts w e) }

pub none_begins : (ts : List Lexeme) → None ≡ (reading apart ts).core.expr 0 → NoneBegins ts
none_begins ts h e rest w is = none ((reading Glued ts).core.expr 0) refl (h ∙ sym ((agree ts).expr 0))
  where
    none : (o : Option (Expression × ℕ)) → o ≡ (reading Glued ts).core.expr 0 → None ≡ mapped kept o → ⊥
    none None g h =
        let f = found_at e w rest in
        let same : None ≡ Some f.found = g ∙ ap (λ ts. (reading Glued ts).core.expr 0) is ∙ f.reads in
        cc
    none (Some x) g h = cc

-- a tree is as deep as what is written
mutual
  pub same_depth : (e : Expression) → depth (kept e) ≡ depth e
  same_depth (Number n) = refl
  same_depth (Truth b) = refl
  same_depth (Name x) = refl
  same_depth (Element x ps) = ap (λ n. 1 + n) (same_list_depth ps)
  same_depth (Call o ps) = ap (λ n. 1 + n) (same_list_depth ps)
  same_depth (Unary o a) = ap (λ n. 1 + n) (same_depth a)
  same_depth (Binary o a b) = λ i. 1 + max (same_depth a i) (same_depth b i)
  same_depth (Closed a) = ap (λ n. 1 + n) (same_depth a)

  same_part_depth : (p : Part) → part_depth (part_kept p) ≡ part_depth p
  same_part_depth (One e) = same_depth e
  same_part_depth (Range a b c) = λ i. max (same_maybe_depth a i) (max (same_maybe_depth b i) (same_maybe_depth c i))
  same_part_depth (Glued a c) = (λ i. max (same_maybe_depth a i) (max 0 (same_depth c i))) ∙ omega arith

  same_list_depth : (ps : Parts) → list_depth (all_kept ps) ≡ list_depth ps
  same_list_depth End = refl
  same_list_depth (More p ps) = λ i. max (same_part_depth p i) (same_list_depth ps i)

  same_maybe_depth : (a : Maybe) → maybe_depth (maybe_kept a) ≡ maybe_depth a
  same_maybe_depth Absent = refl
  same_maybe_depth (Present e) = same_depth e

pub too_deep : (b : Bool) (d l : ℕ) → (IsTrue b ↔ (d ≤ l)) → b ≡ false → l < d
too_deep b d l h e = ⊎_elim (λ lt. lt) (λ le. let t : IsTrue b = h.1 le in absurd cc) (cases_lt l d)

pub front_sound : (ts : List Lexeme) → Ifs (front ts) (IsFront ts)
unfolding front
front_sound ts = at ((reading apart ts).core.expr 0) refl
  where
    at : (o : Option (Expression × ℕ)) → o ≡ (reading apart ts).core.expr 0 → Ifs (o >>= λ x. Some (x.0, drop x.1 ts)) (IsFront ts)
    at None h = tt
    at (Some x) h =
        let w = written ts x h in
        record { written = w.written; same = w.same; formed = w.longest.spelled.formed; parts = w.longest.spelled.takes.0 }

ends_stop : (ts : List Lexeme) (k : ℕ) → Ends ts → Stops k ts
ends_stop [] k h = tt
ends_stop (t ∷ ts) k h = (h.0, subst (λ o. Ifs o (λ o. level o < k)) (sym h.1) tt)

pub front_found : (e : Expression) (us : List Lexeme) → IsFormed e → Ends us → front (spelling e ++ us) ≡ Some (kept e, us)
unfolding front
front_found e us w h =
    let f = found_at e w us in
    ap (λ o. o >>= λ x. Some (x.0, drop x.1 (spelling e ++ us)))
    (sym ((agree (spelling e ++ us)).expr 0) ∙ ap (mapped kept) (f.reads ∙ ap Some (f.exact (ends_stop us (inner e) h) (ends_stop us 0 h))))
    ∙ ap (λ k. Some (kept e, k)) (drop_taken (spelling e) us (length (spelling e)) refl)

-- a well-formed expression at the front is found, or one that is at least as deep
pub front_deep : (e : Expression) (us : List Lexeme) → IsFormed e → IsAsDeep e (front (spelling e ++ us))
unfolding front
front_deep e us w =
    let f = found_at e w us in
    let is = sym ((agree (spelling e ++ us)).expr 0) ∙ ap (mapped kept) f.reads in
    subst (λ o. IsAsDeep e (o >>= λ x. Some (x.0, drop x.1 (spelling e ++ us)))) (sym is) (omega (arith, f.deep, same_depth f.found.0))
