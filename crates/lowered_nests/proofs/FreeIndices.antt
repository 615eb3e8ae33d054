-- Which indices are free round a place of a nest's innermost block.
use Rattle.std.proofs.Common.{◌≡◌, ℕ, nat_eq, List, [], ◌∷◌, ◌++◌, map, Bool, true, false, true≢false, not, if◌then◌else◌, refl, sym, ap, ◌∙◌, subst, append_assoc, append-nil}
use Rattle.std.specs.Prelude.{◌||◌, ◌&&◌}
use Rattle.std.proofs.lemmas.List.Folds.{list_any-append}
use Rattle.nest_syntax.specs.NestKinds.{Kind}
use Rattle.array_meaning.specs.Statements.{Loop, Nest, Block}
use Rattle.array_meaning.specs.Iterations.{is_in, nest_indices}
use Rattle.lowered_expressions.specs.WellFormed.{IsWellFormedBlock}
use Rattle.nest_items.specs.Settled.{without}
use Rattle.nest_items.specs.NestForm.{BlockKeeps, LoopsKeep, IsNest}
use Rattle.nest_items.proofs.NameKinds.{reversed}
use Rattle.nest_join.specs.CodedBlocks.{hidden_in}
use Rattle.nest_join.proofs.Names.{eq-is}
use Rattle.lowered_nests.proofs.Listed.{turned}

-- what is free: indices but those of the nest and of the inner loops round the place
pub record AreFree (all : ℕ → Bool) (outer : List ℕ) (free : ℕ → Bool) (round : List ℕ) : Type 0 where
  pub is : (k : ℕ) → free k ≡ ((all k && not (is_in k outer)) && not (is_in k round))
  pub inner : (k : ℕ) → is_in k round ≡ true → (all k ≡ true) × (is_in k outer ≡ false)
  pub outside : (k : ℕ) → is_in k outer ≡ true → all k ≡ true

three : (a o r : Bool) → ((a && not o) && not r) ≡ true → (a ≡ true) × (o ≡ false) × (r ≡ false)
three true false false h = (refl, refl, refl)
three true false true h = absurd (true≢false (sym h))
three true true r h = absurd (true≢false (sym h))
three false o r h = absurd (true≢false (sym h))

but-one : (p r e : Bool) → ((p && not r) && not e) ≡ (p && not (e || r))
but-one true true true = refl
but-one true true false = refl
but-one true false true = refl
but-one true false false = refl
but-one false r e = refl

but-last : (p s e : Bool) → ((p && not s) && not e) ≡ (p && not (s || (e || false)))
but-last true true true = refl
but-last true true false = refl
but-last true false true = refl
but-last true false false = refl
but-last false s e = refl

pub free-is : (all : ℕ → Bool) (outer : List ℕ) (free : ℕ → Bool) (round : List ℕ) → AreFree all outer free round → (k : ℕ) → free k ≡ true
    → (all k ≡ true) × (is_in k outer ≡ false) × (is_in k round ≡ false)
free-is all outer free round h k e = three (all k) (is_in k outer) (is_in k round) (sym (h.is k) ∙ e)

-- in one more loop
pub free-inside : (all : ℕ → Bool) (outer : List ℕ) (free : ℕ → Bool) (round : List ℕ) → AreFree all outer free round → (x : ℕ) → free x ≡ true
    → AreFree all outer (without free x) (x ∷ round)
free-inside all outer free round h x e = record {
  is = λ k. ap (λ b. b && not (nat_eq k x)) (h.is k) ∙ but-one (all k && not (is_in k outer)) (is_in k round) (nat_eq k x);
  inner = λ k y. by_test k (nat_eq k x) refl y;
  outside = h.outside;
}
  where
    by_test : (k : ℕ) (t : Bool) → nat_eq k x ≡ t → (nat_eq k x || is_in k round) ≡ true → (all k ≡ true) × (is_in k outer ≡ false)
    by_test k true f y = let z = free-is all outer free round h x e in let same : k ≡ x = eq-is k x f in (ap all same ∙ z.0, ap (λ a. is_in a outer) same ∙ z.1)
    by_test k false f y = h.inner k (sym (ap (λ b. b || is_in k round) f) ∙ y)

pub not-hidden : (is_index : ℕ → Bool) (round : List ℕ) (k : ℕ) → is_in k round ≡ false → hidden_in is_index round k ≡ is_index k
not-hidden is_index [] k h = refl
not-hidden is_index (x ∷ round) k h = by_test (nat_eq x k) (ap (λ b. b || is_in k round) (turned x k) ∙ h) (not-hidden is_index round k)
  where
    by_test : (t : Bool) → (t || is_in k round) ≡ false → (is_in k round ≡ false → hidden_in is_index round k ≡ is_index k)
        → (if t then false else hidden_in is_index round k) ≡ is_index k
    by_test true h g = absurd (true≢false h)
    by_test false h g = g h

-- ---- the innermost block

abbrev indices : List Loop → List ℕ
indices ls = map (λ l. l.index) ls

record IsInside (kinds : ℕ → Kind) (all : ℕ → Bool) (n : ℕ) (seen : List ℕ) (ls : List Loop) (body : Block) : Type 0 where
  pub free : ℕ → Bool
  pub keeps : BlockKeeps kinds free body
  pub named : IsWellFormedBlock n body
  pub is : (k : ℕ) → free k ≡ (all k && not (is_in k (seen ++ indices ls)))
  pub outside : (k : ℕ) → is_in k (indices ls) ≡ true → all k ≡ true

inside : (kinds : ℕ → Kind) (all free : ℕ → Bool) (n : ℕ) (ls : List Loop) (block body : Block) → LoopsKeep kinds all free ls block body → IsWellFormedBlock n block
    → (seen : List ℕ) → ((k : ℕ) → free k ≡ (all k && not (is_in k seen))) → IsInside kinds all n seen ls body
inside kinds all free n [] block body h ok seen is = record {
  free = free;
  keeps = h.1;
  named = subst (IsWellFormedBlock n) h.0 ok;
  is = λ k. is k ∙ ap (λ xs. all k && not (is_in k xs)) (sym (append-nil seen));
  outside = λ k e. absurd (true≢false (sym e));
}
inside kinds all free n (l ∷ ls) block body h ok seen is =
    let mine = subst (IsWellFormedBlock n) h.2 ok in
    let r = inside kinds all (without free l.index) n ls h.1 body h.5 mine.0.2 (seen ++ l.index ∷ []) next in
    record {
      free = r.free;
      keeps = r.keeps;
      named = r.named;
      is = λ k. r.is k ∙ ap (λ xs. all k && not (is_in k xs)) (append_assoc seen (l.index ∷ []) (indices ls));
      outside = λ k e. by_test k (nat_eq k l.index) refl e (r.outside k);
    }
  where
    next : (k : ℕ) → (free k && not (nat_eq k l.index)) ≡ (all k && not (is_in k (seen ++ l.index ∷ [])))
    next k =
        ap (λ b. b && not (nat_eq k l.index)) (is k) ∙ but-last (all k) (is_in k seen) (nat_eq k l.index)
        ∙ ap (λ b. all k && not b) (sym (list_any-append (nat_eq k) seen (l.index ∷ [])))

    by_test : (k : ℕ) (t : Bool) → nat_eq k l.index ≡ t → (nat_eq k l.index || is_in k (indices ls)) ≡ true → (is_in k (indices ls) ≡ true → all k ≡ true) → all k ≡ true
    by_test k true f e g = ap all (eq-is k l.index f) ∙ h.3.unseen
    by_test k false f e g = g (sym (ap (λ b. b || is_in k (indices ls)) f) ∙ e)

pub record IsBody (kinds : ℕ → Kind) (all : ℕ → Bool) (n : ℕ) (nest : Nest) (body : Block) : Type 0 where
  pub free : ℕ → Bool
  pub keeps : BlockKeeps kinds free body
  pub named : IsWellFormedBlock n body
  pub are : AreFree all (nest_indices nest) free []

pub nest-body : (kinds : ℕ → Kind) (all : ℕ → Bool) (n : ℕ) (nest : Nest) (loop : Loop) (block body : Block) → IsNest kinds all nest loop block body
    → IsWellFormedBlock n block → IsBody kinds all n nest body
nest-body kinds all n nest loop block body h ok =
    let r = inside kinds all (without all loop.index) n h.inner block body h.tight ok (loop.index ∷ []) (λ k. but-none (all k) (nat_eq k loop.index)) in
    record {
      free = r.free;
      keeps = r.keeps;
      named = r.named;
      are = record {
        is = λ k. r.is k ∙ ap (λ b. all k && not b) (sym (listed k)) ∙ with-none (all k && not (is_in k (nest_indices nest)));
        inner = λ k e. absurd (true≢false (sym e));
        outside = λ k e. by_test k (nat_eq k loop.index) refl (sym (listed k) ∙ e) (r.outside k);
      };
    }
  where
    but-none : (a e : Bool) → (a && not e) ≡ (a && not (e || false))
    but-none true true = refl
    but-none true false = refl
    but-none false e = refl

    with-none : (b : Bool) → b ≡ (b && not false)
    with-none true = refl
    with-none false = refl

    listed : (k : ℕ) → is_in k (nest_indices nest) ≡ is_in k (loop.index ∷ indices h.inner)
    listed k = reversed k (indices nest.loops) ∙ ap (λ ls. is_in k (indices ls)) h.loops

    by_test : (k : ℕ) (t : Bool) → nat_eq k loop.index ≡ t → (nat_eq k loop.index || is_in k (indices h.inner)) ≡ true → (is_in k (indices h.inner) ≡ true → all k ≡ true) → all k ≡ true
    by_test k true f e g = ap all (eq-is k loop.index f) ∙ h.unseen
    by_test k false f e g = g (sym (ap (λ b. b || is_in k (indices h.inner)) f) ∙ e)
