-- Loops in loops are one loop over the numbers of the tuples, innermost first.
use Rattle.std.proofs.Common.{◌≡◌, ℕ, ◌*◌, ◌/◌, ◌%◌, List, [], ◌∷◌, ◌++◌, reverse, length, Result, refl, ap, ap₂, sym, ◌∙◌, arith}
use Rattle.std.proofs.lemmas.List.{length-reverse, reverse-append, map-append}
use Rattle.hpf_base.specs.ElementOrder.{product}
use Rattle.nest_order.specs.Turns.{in_turn}
use Rattle.nest_order.specs.NestIndex.{iterations, IsTuple, tuple_of, nested}
use Rattle.nest_order.proofs.Numbering.{in_turn-same, in_order}
use Rattle.array_meaning.specs.State.{State, set_scalar}
use Rattle.array_meaning.specs.declared.sections.Sequence.{Sequence}
use Rattle.array_meaning.specs.Forall.{index_extents, indices_at}
use Rattle.array_meaning.specs.Iterations.{turn_value, with_indices}

module _ {M F : Type 0} where
  nested-last : (cs : List ℕ) (c : ℕ) (f : List ℕ → M → Result M F) (m : M)
      → nested (cs ++ c ∷ []) f m ≡ in_turn c (λ x. nested cs (λ ts. f (ts ++ x ∷ []))) m
  nested-last [] c f m = refl
  nested-last (a ∷ as') c f m = nested-last as' c (λ outer. in_turn a (λ t. f (t ∷ outer))) m

  nested-same : (cs : List ℕ) (f g : List ℕ → M → Result M F) → ((ts : List ℕ) → IsTuple cs ts → f ts ≡ g ts) → nested cs f ≡ nested cs g
  nested-same [] f g e = e [] tt
  nested-same (c ∷ cs) f g e =
      nested-same cs (λ outer. in_turn c (λ t. f (t ∷ outer))) (λ outer. in_turn c (λ t. g (t ∷ outer)))
      (λ outer is. in_turn-same c (λ t. f (t ∷ outer)) (λ t. g (t ∷ outer)) (λ t lt. e (t ∷ outer) (lt, is)))

-- the state at a tuple of turns, innermost first
abbrev pub at_turns : List ℕ → List Sequence → List ℕ → State → State
at_turns (x ∷ xs) (p ∷ ps) (t ∷ ts) s = set_scalar (at_turns xs ps ts s) x (turn_value p t)
at_turns xs ps ts s = s

at_turns-last : (xs : List ℕ) (ps : List Sequence) (ts : List ℕ) (x : ℕ) (p : Sequence) (t : ℕ) (s : State) → length xs ≡ length ps → IsTuple (index_extents ps) ts
    → at_turns (xs ++ x ∷ []) (ps ++ p ∷ []) (ts ++ t ∷ []) s ≡ at_turns xs ps ts (set_scalar s x (turn_value p t))
at_turns-last [] [] [] x p t s e is = refl
at_turns-last [] [] (u ∷ ts) x p t s e is = absurd is
at_turns-last [] (q ∷ ps) ts x p t s e is = absurd (omega (arith, e))
at_turns-last (y ∷ xs) [] ts x p t s e is = absurd (omega (arith, e))
at_turns-last (y ∷ xs) (q ∷ ps) [] x p t s e is = absurd is
at_turns-last (y ∷ xs) (q ∷ ps) (u ∷ ts) x p t s e is = ap (λ z. set_scalar z y (turn_value q u)) (at_turns-last xs ps ts x p t s (omega (arith, e)) is.1)

pub at_numbers : (xs : List ℕ) (ps : List Sequence) (i : ℕ) (s : State) → at_turns xs ps (tuple_of (index_extents ps) i) s ≡ with_indices xs (indices_at ps i) s
at_numbers [] [] i s = refl
at_numbers [] (p ∷ ps) i s = refl
at_numbers (x ∷ xs) [] i s = refl
at_numbers (x ∷ xs) (p ∷ ps) i s = ap (λ z. set_scalar z x (turn_value p (i % p.count))) (at_numbers xs ps (i / p.count) s)

iterations-product : (ns : List ℕ) → iterations ns ≡ product ns
iterations-product [] = refl
iterations-product (n ∷ ns) = ap (λ z. n * z) (iterations-product ns)

pub reverse-more : {A : Type 0} (x : A) (xs : List A) → reverse (x ∷ xs) ≡ reverse xs ++ x ∷ []
reverse-more x xs = reverse-append (x ∷ []) xs

length_reverses : (xs : List ℕ) (ps : List Sequence) → length xs ≡ length ps → length (reverse xs) ≡ length (reverse ps)
length_reverses xs ps e = length-reverse xs ∙ e ∙ sym (length-reverse ps)

-- the loops outermost first, with the values of their indices
module _ {M F : Type 0} (does : State → M → Result M F) where
  abbrev pub loops_do : List ℕ → List Sequence → State → M → Result M F
  loops_do (x ∷ xs) (p ∷ ps) s m = in_turn p.count (λ t. loops_do xs ps (set_scalar s x (turn_value p t))) m
  loops_do xs ps s m = does s m

  as_nested : (xs : List ℕ) (ps : List Sequence) (s : State) (m : M) → length xs ≡ length ps
      → loops_do xs ps s m ≡ nested (index_extents (reverse ps)) (λ ts. does (at_turns (reverse xs) (reverse ps) ts s)) m
  as_nested [] [] s m e = refl
  as_nested [] (p ∷ ps) s m e = absurd (omega (arith, e))
  as_nested (x ∷ xs) [] s m e = absurd (omega (arith, e))
  as_nested (x ∷ xs) (p ∷ ps) s m e =
      let long : length xs ≡ length ps = omega (arith, e) in
      ap (λ f. f m) (in_turn-same p.count (λ t. loops_do xs ps (set_scalar s x (turn_value p t)))
      (λ t. nested (index_extents (reverse ps)) (λ ts. does (at_turns (reverse xs ++ x ∷ []) (reverse ps ++ p ∷ []) (ts ++ t ∷ []) s)))
      (λ t lt. (λ i n. as_nested xs ps (set_scalar s x (turn_value p t)) n long i)
      ∙ nested-same (index_extents (reverse ps)) (λ ts. does (at_turns (reverse xs) (reverse ps) ts (set_scalar s x (turn_value p t))))
      (λ ts. does (at_turns (reverse xs ++ x ∷ []) (reverse ps ++ p ∷ []) (ts ++ t ∷ []) s))
      (λ ts is. ap does (sym (at_turns-last (reverse xs) (reverse ps) ts x p t s (length_reverses xs ps long) is)))))
      ∙ sym (nested-last (index_extents (reverse ps)) p.count (λ ts. does (at_turns (reverse xs ++ x ∷ []) (reverse ps ++ p ∷ []) ts s)) m)
      ∙ ap (λ cs. nested cs (λ ts. does (at_turns (reverse xs ++ x ∷ []) (reverse ps ++ p ∷ []) ts s)) m) (sym (map-append (λ q. q.count) (reverse ps) (p ∷ [])))
      ∙ ap₂ (λ ys qs. nested (index_extents qs) (λ ts. does (at_turns ys qs ts s)) m) (sym (reverse-more x xs)) (sym (reverse-more p ps))

  pub as_numbers : (xs : List ℕ) (ps : List Sequence) (s : State) (m : M) → length xs ≡ length ps
      → loops_do xs ps s m ≡ in_turn (product (index_extents (reverse ps))) (λ i. does (with_indices (reverse xs) (indices_at (reverse ps) i) s)) m
  as_numbers xs ps s m e =
      as_nested xs ps s m e ∙ in_order (index_extents (reverse ps)) (λ ts. does (at_turns (reverse xs) (reverse ps) ts s)) m
      ∙ ap (λ n. in_turn n (λ i. does (at_turns (reverse xs) (reverse ps) (tuple_of (index_extents (reverse ps)) i) s)) m) (iterations-product (index_extents (reverse ps)))
      ∙ λ j. in_turn (product (index_extents (reverse ps))) (λ i. does (at_numbers (reverse xs) (reverse ps) i s j)) m
