-- The flat parts of an iteration do what its statements do.
use Rattle.std.proofs.Common.{◌≡◌, ℕ, zero, suc, ◌+◌, ◌<◌, ◌≤◌, List, [], ◌∷◌, ◌++◌, Option, Some, None, Result, Ok, Err, Bool, true, false, refl, ap, sym, ◌∙◌, subst, arith, true≢false}
use Rattle.std.specs.Prelude.{nat_eq, ◌&&◌, not, if◌then◌else◌}
use Rattle.std.proofs.lemmas.Bool.Decides.{nat_tests}
use Rattle.std.proofs.Math.Bool.{and-true}
use Rattle.nest_order.specs.Turns.{◌>>=◌, in_turn, joined_up_to}
use Rattle.nest_order.specs.Items.{Items, Done, Then, If, Repeat, Branches, EndIf, Branch, Evaluation, holds_in, exec, exec_branches}
use Rattle.nest_order.specs.Parts.{most, Conditions, set_condition, guard_holds, none_holds, IsBelow, Iteration, NestPart, count_items, count_branches, flat, flat_branches, do_part, do_parts, Matches, is_tested}

pub set_at : (c : Conditions) (n : ℕ) (b : Bool) → set_condition c n b n ≡ b
set_at c n b = let e : nat_eq n n ≡ true = grind (arith, nat_tests) in ap (λ t. if t then b else c n) e

pub set_other : (c : Conditions) (n x : ℕ) (b : Bool) → (x ≡ n → ⊥) → set_condition c n b x ≡ c x
set_other c n x b ne = let e : nat_eq x n ≡ false = grind (arith, nat_tests) in ap (λ t. if t then b else c x) e

-- the conditions below k are kept
abbrev pub Kept : ℕ → Conditions → Conditions → Type 0
Kept k c d = (x : ℕ) → x < k → d x ≡ c x

pub kept-set : (k n : ℕ) (c : Conditions) (b : Bool) → k ≤ n → Kept k c (set_condition c n b)
kept-set k n c b le = λ x lt. set_other c n x b (omega arith)

pub kept-below : (k k' : ℕ) (c d : Conditions) → k ≤ k' → Kept k' c d → Kept k c d
kept-below k k' c d le kept = λ x lt. kept x (omega arith)

pub kept-trans : (k : ℕ) (c d e : Conditions) → Kept k c d → Kept k d e → Kept k c e
kept-trans k c d e first second = λ x lt. second x lt ∙ first x lt

abbrev pub AllBelow : List ℕ → ℕ → Type 0
AllBelow [] k = Unit {0}
AllBelow (n ∷ ns) k = (n < k) × AllBelow ns k

pub below-more : (g : Option ℕ) (k k' : ℕ) → k ≤ k' → IsBelow g k → IsBelow g k'
below-more None k k' le h = tt
below-more (Some n) k k' le h = let z : n < k = h in omega arith

pub all_below-more : (ns : List ℕ) (k k' : ℕ) → k ≤ k' → AllBelow ns k → AllBelow ns k'
all_below-more [] k k' le h = tt
all_below-more (n ∷ ns) k k' le h = (let z : n < k = h.0 in omega arith, all_below-more ns k k' le h.1)

pub holds_kept : (g : Option ℕ) (k : ℕ) (c d : Conditions) → IsBelow g k → Kept k c d → guard_holds g d ≡ guard_holds g c
holds_kept None k c d h kept = refl
holds_kept (Some n) k c d h kept = kept n h

none_kept : (ns : List ℕ) (k : ℕ) (c d : Conditions) → AllBelow ns k → Kept k c d → none_holds ns d ≡ none_holds ns c
none_kept [] k c d h kept = refl
none_kept (n ∷ ns) k c d h kept = ap (λ b. not b && none_holds ns d) (kept n h.0) ∙ ap (λ b. not (c n) && b) (none_kept ns k c d h.1 kept)

pub tested_kept : (g : Option ℕ) (es : List ℕ) (k : ℕ) (c d : Conditions) → IsBelow g k → AllBelow es k → Kept k c d → is_tested g es d ≡ is_tested g es c
tested_kept g es k c d below all kept = ap (λ b. b && none_holds es d) (holds_kept g k c d below kept) ∙ ap (λ b. guard_holds g c && b) (none_kept es k c d all kept)

pub tested_first : (g : Option ℕ) (c : Conditions) → is_tested g [] c ≡ guard_holds g c
tested_first g c = and-true (guard_holds g c)

-- the tests of the branches after number k, by whether that one was taken
pub tested_later : (g : Option ℕ) (es : List ℕ) (k : ℕ) (c : Conditions) (b : Bool) → is_tested g es c ≡ b → c k ≡ false → is_tested g (k ∷ es) c ≡ b
tested_later g es k c b h free = ap (λ t. guard_holds g c && (not t && none_holds es c)) free ∙ h

and_none : (a b c : Bool) → b ≡ false → (a && (b && c)) ≡ false
and_none true true c h = absurd (true≢false h)
and_none true false c h = refl
and_none false b c h = refl

pub tested_taken : (g : Option ℕ) (es : List ℕ) (k : ℕ) (c : Conditions) → c k ≡ true → is_tested g (k ∷ es) c ≡ false
tested_taken g es k c taken = and_none (guard_holds g c) (not (c k)) (none_holds es c) (ap not taken)

and_middle : (a b c : Bool) → (a && c) ≡ false → (a && (b && c)) ≡ false
and_middle true true c h = h
and_middle true false c h = refl
and_middle false b c h = refl

pub tested_off : (g : Option ℕ) (es : List ℕ) (k : ℕ) (c : Conditions) → is_tested g es c ≡ false → is_tested g (k ∷ es) c ≡ false
tested_off g es k c off = and_middle (guard_holds g c) (not (c k)) (none_holds es c) off

abbrev at : {M : Type 0} → M → Conditions → Iteration M
at m c = record { storage = m; conditions = c }

Matches-below : {M F : Type 0} (k k' : ℕ) (c c' : Conditions) (r : Result (Iteration M) F) (q : Result M F) → k ≤ k' → Kept k c c' → Matches k' c' r q → Matches k c r q
Matches-below k k' c c' r (Ok m) le kept h = (h.0, h.1, λ x lt. h.2 x (omega arith) ∙ kept x lt)
Matches-below k k' c c' r (Err f) le kept h = h

module _ {A C M F : Type 0} (E : Evaluation A C M F) where
  parts_append : (ps qs : List (NestPart A C)) (s : Iteration M) → do_parts E (ps ++ qs) s ≡ do_parts E ps s >>= do_parts E qs
  parts_append [] qs s = refl
  parts_append (p ∷ ps) qs s = after (λ t. parts_append ps qs t) (do_part E p s)
    where
      after : ((t : Iteration M) → do_parts E (ps ++ qs) t ≡ do_parts E ps t >>= do_parts E qs) → (r : Result (Iteration M) F)
          → r >>= do_parts E (ps ++ qs) ≡ (r >>= do_parts E ps) >>= do_parts E qs
      after rec (Ok t) = rec t
      after rec (Err f) = refl

  leads : (ps qs : List (NestPart A C)) (s t : Iteration M) → do_parts E ps s ≡ Ok t → do_parts E (ps ++ qs) s ≡ do_parts E qs t
  leads ps qs s t e = parts_append ps qs s ∙ ap (λ r. r >>= do_parts E qs) e

  -- the parts leave the storage and the conditions below k
  abbrev Skipped : ℕ → List (NestPart A C) → M → Conditions → Type 0
  Skipped k ps m c = (d : Conditions) × (do_parts E ps (at m c) ≡ Ok (at m d)) × Kept k c d

  skipped_below : (k k' : ℕ) (ps : List (NestPart A C)) (m : M) (c : Conditions) → k ≤ k' → Skipped k' ps m c → Skipped k ps m c
  skipped_below k k' ps m c le h = (h.0, h.1, kept-below k k' c h.0 le h.2)

  skipped_append : (k : ℕ) (ps qs : List (NestPart A C)) (m : M) (c : Conditions) → Skipped k ps m c → ((d : Conditions) → Kept k c d → Skipped k qs m d) → Skipped k (ps ++ qs) m c
  skipped_append k ps qs m c h next =
      let g = next h.0 h.2 in
      (g.0, leads ps qs (at m c) (at m h.0) h.1 ∙ g.1, kept-trans k c h.0 g.0 h.2 g.2)

  skipped_turns : (k : ℕ) (g : Option ℕ) (lists : ℕ → List (NestPart A C)) (m : M) → IsBelow g k → ((x : ℕ) (c : Conditions) → guard_holds g c ≡ false → Skipped k (lists x) m c) →
      (t : ℕ) (c : Conditions) → guard_holds g c ≡ false → Skipped k (joined_up_to t lists) m c
  skipped_turns k g lists m below each zero c off = (c, refl, λ x lt. refl)
  skipped_turns k g lists m below each (suc t) c off =
      skipped_append k (joined_up_to t lists) (lists t) m c (skipped_turns k g lists m below each t c off) (λ d kept. each t d (holds_kept g k c d below kept ∙ off))

  mutual
    -- after a guard that doesn't hold nothing is done
    skip : (items : Items A C) (g : Option ℕ) (k : ℕ) → IsBelow g k → (m : M) (c : Conditions) → guard_holds g c ≡ false → Skipped k (flat items g k) m c
    skip Done g k below m c off = (c, refl, λ x lt. refl)
    skip (Then a rest) g k below m c off =
        let r = skip rest g k below m c off in
        (r.0, ap (λ b. ((if b then E.action a m else Ok m) >>= (λ m'. let v : Result (Iteration M) F = Ok (at m' c) in v)) >>= do_parts E (flat rest g k)) off ∙ r.1, r.2)
    skip (If branches rest) g k below m c off =
        skipped_append k (flat_branches branches g [] k) (flat rest g (k + count_branches branches)) m c (skip_branches branches g [] k below tt m c (tested_first g c ∙ off))
        (λ d kept. skipped_below k (k + count_branches branches) (flat rest g (k + count_branches branches)) m d (omega arith)
        (skip rest g (k + count_branches branches) (below-more g k (k + count_branches branches) (omega arith) below) m d (holds_kept g k c d below kept ∙ off)))
    skip (Repeat t body rest) g k below m c off =
        skipped_append k (joined_up_to t (λ x. flat (body x) g k)) (flat rest g (k + most (suc t) (λ x. count_items (body x)))) m c
        (skipped_turns k g (λ x. flat (body x) g k) m below (λ x d h. skip (body x) g k below m d h) t c off)
        (λ d kept. skipped_below k (k + most (suc t) (λ x. count_items (body x))) (flat rest g (k + most (suc t) (λ x. count_items (body x)))) m d (omega arith)
        (skip rest g (k + most (suc t) (λ x. count_items (body x))) (below-more g k (k + most (suc t) (λ x. count_items (body x))) (omega arith) below) m d
        (holds_kept g k c d below kept ∙ off)))

    skip_branches : (branches : Branches A C) (g : Option ℕ) (es : List ℕ) (k : ℕ) → IsBelow g k → AllBelow es k → (m : M) (c : Conditions)
        → is_tested g es c ≡ false → Skipped k (flat_branches branches g es k) m c
    skip_branches EndIf g es k below all m c off = (c, refl, λ x lt. refl)
    skip_branches (Branch test body others) g es k below all m c off =
        let k' = k + 1 + count_items body in
        let c1 = set_condition c k false in
        let kept1 = kept-set k k c false (omega arith) in
        let r = skipped_append k (flat body (Some k) (k + 1)) (flat_branches others g (k ∷ es) k') m c1
        (skipped_below k (k + 1) (flat body (Some k) (k + 1)) m c1 (omega arith) (skip body (Some k) (k + 1) (omega arith) m c1 (set_at c k false)))
        (λ d kept. skipped_below k k' (flat_branches others g (k ∷ es) k') m d (omega arith)
        (skip_branches others g (k ∷ es) k' (below-more g k k' (omega arith) below) (omega arith, all_below-more es k k' (omega arith) all) m d
        (tested_off g es k d (tested_kept g es k c d below all (kept-trans k c c1 d kept1 kept) ∙ off)))) in (
          r.0,
          ap
              (λ b.
              ((if b then holds_in E test m else Ok false) >>= (λ v. let w : Result (Iteration M) F = Ok (at m (set_condition c k v)) in w))
              >>= do_parts E (flat body (Some k) (k + 1) ++ flat_branches others g (k ∷ es) k')) off ∙ r.1,
          kept-trans k c c1 r.0 kept1 r.2,
        )

  -- one list of parts after another
  then_matches : (k k' : ℕ) (c c' : Conditions) (s : Iteration M) (ps qs : List (NestPart A C)) (q : Result M F) (f : M → Result M F) → Matches k' c' (do_parts E ps s) q →
      ((m : M) (d : Conditions) → Kept k' c' d → Matches k c (do_parts E qs (at m d)) (f m)) → Matches k c (do_parts E (ps ++ qs) s) (q >>= f)
  then_matches k k' c c' s ps qs (Err e) f h next = parts_append ps qs s ∙ ap (λ r. r >>= do_parts E qs) h
  then_matches k k' c c' s ps qs (Ok m) f h next = subst (λ r. Matches k c r (f m)) (sym (leads ps qs s (at m h.0) h.1)) (next m h.0 h.2)

  -- parts that are skipped after a list of parts
  then_skipped : (k k' : ℕ) (c c' : Conditions) (s : Iteration M) (ps qs : List (NestPart A C)) (q : Result M F) → Matches k' c' (do_parts E ps s) q →
      ((m : M) (d : Conditions) → Kept k' c' d → (Skipped k qs m d) × Kept k c d) → Matches k c (do_parts E (ps ++ qs) s) q
  then_skipped k k' c c' s ps qs (Err e) h next = parts_append ps qs s ∙ ap (λ r. r >>= do_parts E qs) h
  then_skipped k k' c c' s ps qs (Ok m) h next =
      let n = next m h.0 h.2 in
      (n.0.0, leads ps qs s (at m h.0) h.1 ∙ n.0.1, kept-trans k c h.0 n.0.0 n.1 n.0.2)

  matches_turns : (k : ℕ) (g : Option ℕ) (lists : ℕ → List (NestPart A C)) (body : ℕ → M → Result M F) → IsBelow g k →
      ((x : ℕ) (m : M) (c : Conditions) → guard_holds g c ≡ true → Matches k c (do_parts E (lists x) (at m c)) (body x m)) →
      (t : ℕ) (m : M) (c : Conditions) → guard_holds g c ≡ true → Matches k c (do_parts E (joined_up_to t lists) (at m c)) (in_turn t body m)
  matches_turns k g lists body below each zero m c on = (c, refl, λ x lt. refl)
  matches_turns k g lists body below each (suc t) m c on =
      then_matches k k c c (at m c) (joined_up_to t lists) (lists t) (in_turn t body m) (body t) (matches_turns k g lists body below each t m c on)
      (λ m' d kept. Matches-below k k c d (do_parts E (lists t) (at m' d)) (body t m') (omega arith) kept (each t m' d (holds_kept g k c d below kept ∙ on)))

  mutual
    -- after a guard that holds the parts do what the statements do
    items_done : (items : Items A C) (g : Option ℕ) (k : ℕ) → IsBelow g k → (m : M) (c : Conditions) → guard_holds g c ≡ true
        → Matches k c (do_parts E (flat items g k) (at m c)) (exec E items m)
    items_done Done g k below m c on = (c, refl, λ x lt. refl)
    items_done (Then a rest) g k below m c on =
        subst (λ b. Matches k c (((if b then E.action a m else Ok m) >>= (λ m'. Ok (at m' c))) >>= do_parts E (flat rest g k)) (E.action a m >>= exec E rest)) (sym on)
        (after (λ m'. items_done rest g k below m' c on) (E.action a m))
      where
        after : ((m' : M) → Matches k c (do_parts E (flat rest g k) (at m' c)) (exec E rest m')) → (r : Result M F)
            → Matches k c ((r >>= (λ m'. Ok (at m' c))) >>= do_parts E (flat rest g k)) (r >>= exec E rest)
        after rec (Ok m') = rec m'
        after rec (Err f) = refl
    items_done (If branches rest) g k below m c on =
        let k' = k + count_branches branches in
        then_matches k k c c (at m c) (flat_branches branches g [] k) (flat rest g k') (exec_branches E branches m) (exec E rest)
        (branches_done branches g [] k below tt m c (tested_first g c ∙ on))
        (λ m' d kept. Matches-below k k' c d (do_parts E (flat rest g k') (at m' d)) (exec E rest m') (omega arith) kept
        (items_done rest g k' (below-more g k k' (omega arith) below) m' d (holds_kept g k c d below kept ∙ on)))
    items_done (Repeat t body rest) g k below m c on =
        let k' = k + most (suc t) (λ x. count_items (body x)) in
        then_matches k k c c (at m c) (joined_up_to t (λ x. flat (body x) g k)) (flat rest g k') (in_turn t (λ x. exec E (body x)) m) (exec E rest)
        (matches_turns k g (λ x. flat (body x) g k) (λ x. exec E (body x)) below (λ x m d h. items_done (body x) g k below m d h) t m c on)
        (λ m' d kept. Matches-below k k' c d (do_parts E (flat rest g k') (at m' d)) (exec E rest m') (omega arith) kept
        (items_done rest g k' (below-more g k k' (omega arith) below) m' d (holds_kept g k c d below kept ∙ on)))

    branches_done : (branches : Branches A C) (g : Option ℕ) (es : List ℕ) (k : ℕ) → IsBelow g k → AllBelow es k → (m : M) (c : Conditions) → is_tested g es c ≡ true →
        Matches k c (do_parts E (flat_branches branches g es k) (at m c)) (exec_branches E branches m)
    branches_done EndIf g es k below all m c on = (c, refl, λ x lt. refl)
    branches_done (Branch test body others) g es k below all m c on =
        subst (λ b. Matches k c
        (((if b then holds_in E test m else Ok false) >>= (λ v. Ok (at m (set_condition c k v))))
        >>= do_parts E (flat body (Some k) (k + 1) ++ flat_branches others g (k ∷ es) (k + 1 + count_items body)))
        (holds_in E test m >>= (λ holds. if holds then exec E body m else exec_branches E others m))) (sym on)
        (chosen (λ d h. items_done body (Some k) (k + 1) (omega arith) m d h)
        (λ d h.
        branches_done others g (k ∷ es) (k + 1 + count_items body) (below-more g k (k + 1 + count_items body) (omega arith) below)
        (omega arith, all_below-more es k (k + 1 + count_items body) (omega arith) all) m d h)
        (holds_in E test m))
      where
        k' : ℕ
        k' = k + 1 + count_items body

        chosen : ((d : Conditions) → d k ≡ true → Matches (k + 1) d (do_parts E (flat body (Some k) (k + 1)) (at m d)) (exec E body m)) →
            ((d : Conditions) → is_tested g (k ∷ es) d ≡ true
            → Matches (k + 1 + count_items body) d (do_parts E (flat_branches others g (k ∷ es) (k + 1 + count_items body)) (at m d))
            (exec_branches E others m)) →
            (r : Result Bool F) →
            Matches k c ((r >>= (λ v. Ok (at m (set_condition c k v)))) >>= do_parts E (flat body (Some k) (k + 1) ++ flat_branches others g (k ∷ es) (k + 1 + count_items body)))
            (r >>= (λ holds. if holds then exec E body m else exec_branches E others m))
        chosen taken later (Err f) = refl
        chosen taken later (Ok true) =
            let k' = k + 1 + count_items body in
            let c1 = set_condition c k true in
            then_skipped k (k + 1) c c1 (at m c1) (flat body (Some k) (k + 1)) (flat_branches others g (k ∷ es) k') (exec E body m) (taken c1 (set_at c k true))
            (λ m' d kept. (
              skipped_below k k' (flat_branches others g (k ∷ es) k') m' d (omega arith)
                  (skip_branches others g (k ∷ es) k' (below-more g k k' (omega arith) below) (omega arith, all_below-more es k k' (omega arith) all) m' d
                  (tested_taken g es k d (kept k (omega arith) ∙ set_at c k true))),
              kept-trans k c c1 d (kept-set k k c true (omega arith)) (kept-below k (k + 1) c1 d (omega arith) kept),
            ))
        chosen taken later (Ok false) =
            let k' = k + 1 + count_items body in
            let c1 = set_condition c k false in
            let s = skip body (Some k) (k + 1) (omega arith) m c1 (set_at c k false) in
            let kept = kept-trans k c c1 s.0 (kept-set k k c false (omega arith)) (kept-below k (k + 1) c1 s.0 (omega arith) s.2) in
            subst (λ r. Matches k c r (exec_branches E others m)) (sym (leads (flat body (Some k) (k + 1)) (flat_branches others g (k ∷ es) k') (at m c1) (at m s.0) s.1))
            (Matches-below k k' c s.0 (do_parts E (flat_branches others g (k ∷ es) k') (at m s.0)) (exec_branches E others m) (omega arith) kept
            (later s.0 (tested_later g es k s.0 true (tested_kept g es k c s.0 below all kept ∙ on) (s.2 k (omega arith) ∙ set_at c k false))))

  pub items_taken : (items : Items A C) (g : Option ℕ) (k : ℕ) (m : M) (c : Conditions) → IsBelow g k → guard_holds g c ≡ true
      → Matches k c (do_parts E (flat items g k) (at m c)) (exec E items m)
  items_taken items g k m c below on = items_done items g k below m c on

  pub items_passed : (items : Items A C) (g : Option ℕ) (k : ℕ) (m : M) (c : Conditions) → IsBelow g k → guard_holds g c ≡ false
      → Matches k c (do_parts E (flat items g k) (at m c)) (Ok m)
  items_passed items g k m c below off = skip items g k below m c off
