-- All letters of a pair in the run of nodes from their openings.
use Rattle.std.proofs.Common.{◌≡◌, ℕ, ◌+◌, ◌%◌, ◌^◌, ◌<◌, ◌≤◌, ◌⊎◌, inl, inr, Bool, true, false, if◌then◌else◌, ℤ, nat_lt, get_or, List, [], ◌∷◌, ◌++◌, Option, Some, None, refl, sym, ◌∙◌, ap, subst, arith}
use Rattle.std.specs.List.{slice_get}
use Rattle.std.proofs.Math.Nat.{mod-add-mod}
use Rattle.std.proofs.Math.Path.{fun_ext}
use Rattle.std.proofs.lemmas.Bool.{cases_lt, lt-ltb, le-ltb}
use Rattle.hpf_base.specs.declared.index.Shape.{Shape}
use Rattle.node_law.specs.NodeSteps.{NodeSteps, Move, AreMovesAt, AreMovesOf, after_at, sent, taken, IsPrefix}
use Rattle.node_law.specs.Phases.{PhaseShare, moves, next_number, IsLockstep, Lockstep, all_moves}
use Rattle.node_law.proofs.LawOfPrefixes.{law_of_prefixes, ShareFacts, share-facts}
use Rattle.node_law.proofs.NeverStuck.{prefix-both, end-sent}
use Rattle.node_law.proofs.NextMove.{run-made, run-letters}
use Rattle.node_law.proofs.Prefixes.{prefix-refl, sent-append}
use Rattle.machine_steps.specs.Agrees.{by_number, standing, first_own, openings, Exchange, AreCarried, IsValidCode, IsWhole, IsOver}
use Rattle.machine_steps.specs.Instr.{Instr}
use Rattle.machine_steps.specs.Machine.{Machine, steps}
use Rattle.machine_steps.specs.Node.{FaultValues, Node, node_steps}
use Rattle.letters.specs.declared.letter.Letter.{Letter}
use Rattle.node_run.specs.Letters.{holds_nothing, run_exchanges, pair_letters}
use Rattle.node_run.proofs.Numbers.{AreNumberedFrom, opening-letters, opening-past}
use Rattle.node_run.proofs.Openings.{listed, opening-agree}
use Rattle.node_run.proofs.WholeRuns.{steps-carry, segment-ended}

-- two lockstep runs of the same nodes have the same moves
one-lockstep : {N M : Type 0} (S : NodeSteps N M) (ns : ℕ → Option N) (one two : Lockstep S ns) (p : ℕ) → all_moves one.phases one.last p ≡ all_moves two.phases two.last p
one-lockstep S ns one two p =
    let first1 : (s t : ℕ) → IsPrefix (taken s (all_moves one.phases one.last t)) (sent t (all_moves one.phases one.last s)) =
    λ s t. rw (run-letters S one.phases one.number one.last ns one.run s t) (prefix-refl (taken s (all_moves one.phases one.last t))) in
    let first2 : (s t : ℕ) → IsPrefix (taken s (all_moves two.phases two.last t)) (sent t (all_moves two.phases two.last s)) =
    λ s t. rw (run-letters S two.phases two.number two.last ns two.run s t) (prefix-refl (taken s (all_moves two.phases two.last t))) in
    prefix-both (all_moves one.phases one.last p) (all_moves two.phases two.last p)
    (law_of_prefixes S ns two (all_moves one.phases one.last) (run-made S one.phases one.number one.last ns one.run) first1 p)
    (law_of_prefixes S ns one (all_moves two.phases two.last) (run-made S two.phases two.number two.last ns two.run) first2 p)

module _ {C F : Type 0} (faults : FaultValues F) (meaning : C → Instr F) (count : ℕ) (p q : ℕ) (lp : p < count) (lq : q < count) where
  abbrev S : NodeSteps (Node C F) Letter
  S = node_steps faults meaning

  -- a phase with one letter, or none, and then the others
  one-phase : (b : Bool) (l : Letter) (exchanges : List Exchange) (k : ℕ) (rest : List Letter)
      → AreNumberedFrom k (((if b then l ∷ [] else []) ++ []) ++ rest) → (n : ℕ) (body : List ℤ) → l ≡ record { run = 1; phase = n; from = record { 0 = p }; to = record { 0 = q }; number = l.number; body = body }
      → ((j : ℕ) → AreNumberedFrom j rest → rest ≡ pair_letters p q (next_number n) ((j + 1) % 2 ^ 64) exchanges)
      → (((if b then l ∷ [] else []) ++ []) ++ rest) ≡
      (if b then record { run = 1; phase = n; from = record { 0 = p }; to = record { 0 = q }; number = (k + 1) % 2 ^ 64; body = body } ∷ pair_letters p q (next_number n) (next_number ((k + 1) % 2 ^ 64)) exchanges
      else pair_letters p q (next_number n) ((k + 1) % 2 ^ 64) exchanges)
  one-phase true l exchanges k rest h n body e others =
      ap (λ x. x ∷ rest) (e ∙ ap (λ v. record { run = 1; phase = n; from = record { 0 = p }; to = record { 0 = q }; number = v; body = body }) h.0)
      ∙ ap (λ xs. record { run = 1; phase = n; from = record { 0 = p }; to = record { 0 = q }; number = (k + 1) % 2 ^ 64; body = body } ∷ xs)
      (others (k + 1) h.1 ∙ ap (λ v. pair_letters p q (next_number n) v exchanges) (sym (mod-add-mod (k + 1) (2 ^ 64) 1)))
  one-phase false l exchanges k rest h n body e others = others k h

  pair-letters : (phases : List (ℕ → PhaseShare Letter)) (exchanges : List Exchange) (n k : ℕ) (ns : ℕ → Option (Node C F)) (last : ℕ → List (Move Letter))
      → AreCarried count n phases exchanges → IsLockstep S n ns phases last → AreNumberedFrom k (sent q (all_moves phases last p))
      → sent q (all_moves phases last p) ≡ pair_letters p q n ((k + 1) % 2 ^ 64) exchanges
  pair-letters [] [] n k ns last c run numbered = end-sent S (ns p) (last p) q (run p)
  pair-letters [] (e ∷ exchanges) n k ns last c run numbered = absurd c
  pair-letters (shares ∷ phases) [] n k ns last c run numbered = absurd c
  pair-letters (shares ∷ phases) (e ∷ exchanges) n k ns last c run numbered =
      let f : ShareFacts S (ns p) (shares p) = share-facts S n (ns p) (shares p) (run.0.each p) in
      let l : Letter = record { run = 1; phase = n; from = record { 0 = p }; to = record { 0 = q }; number = get_or (c.0.0 p) q 0; body = e.body p q } in
      let rest : List Letter = sent q (all_moves phases last p) in
      let split : sent q (moves (shares p) ++ all_moves phases last p) ≡ ((if e.sends p q then l ∷ [] else []) ++ []) ++ rest =
      sent-append q (moves (shares p)) (all_moves phases last p)
      ∙ ap (λ xs. xs ++ rest) (sent-append q (shares p).front (shares p).back ∙ ap (λ xs. xs ++ sent q (shares p).back) (c.0.1 p q lp lq)
      ∙ ap (λ xs. (if e.sends p q then l ∷ [] else []) ++ xs) (f.back_sent q)) in
      split ∙ one-phase (e.sends p q) l exchanges k rest (subst (AreNumberedFrom k) split numbered) n (e.body p q) refl
      (λ j h. pair-letters phases exchanges (next_number n) j (λ s. after_at S (ns s) (moves (shares s))) last c.1 run.1 h)

  moves-of-node : (b : Bool) (a : Node C F) (xs : List (Move Letter)) → b ≡ true → AreMovesAt S (if b then Some a else None) xs → AreMovesOf S a xs
  moves-of-node true a xs e h = h
  moves-of-node false a xs e h = cc

  -- whichever lockstep run of the openings it is, the letters of a pair are those of the machine's steps
  pub letters-exact : (made : ℕ) (shapes : List Shape) (m : Machine C F) → m.kept ≡ None → m.substep ≡ 0 → IsValidCode meaning count shapes m.code → IsWhole count shapes m
      → IsOver (steps meaning made m).control.status → (run : Lockstep S (slice_get (openings count m)))
      → sent q (all_moves run.phases run.last p) ≡ pair_letters p q 1 1 (run_exchanges faults count meaning made m holds_nothing)
  letters-exact made shapes m none first valid whole over run =
      let c = steps-carry faults meaning count shapes (omega arith) made 1 m (first_own count) (opening-agree faults meaning count m none first) valid whole in
      let lockstep : IsLockstep S 1 (by_number count (standing count m 1 (first_own count))) c.segment.phases c.segment.last =
      segment-ended faults meaning count shapes (omega arith) 1 m (first_own count) (steps meaning made m) c.segment over in
      let same : by_number count (standing count m 1 (first_own count)) ≡ slice_get (openings count m) = fun_ext
      (λ s. sym (listed (standing count m 1 (first_own count)) count s)) in
      let ours : Lockstep S (slice_get (openings count m)) = record {
        number = 1;
        phases = c.segment.phases;
        last = c.segment.last;
        run = subst (λ ns. IsLockstep S 1 ns c.segment.phases c.segment.last) same lockstep;
      } in
      ap (sent q) (one-lockstep S (slice_get (openings count m)) run ours p)
      ∙ pair-letters c.segment.phases (run_exchanges faults count meaning made m holds_nothing) 1 0 (by_number count (standing count m 1 (first_own count))) c.segment.last
      c.carried lockstep
      (opening-letters faults meaning count m p q (all_moves c.segment.phases c.segment.last p)
      (moves-of-node (nat_lt p count) (standing count m 1 (first_own count) p) (all_moves c.segment.phases c.segment.last p) (lt-ltb p count lp)
      (run-made S c.segment.phases 1 c.segment.last (by_number count (standing count m 1 (first_own count))) lockstep p)))

-- no letter goes from or to a number that no node has
pub none-past : {C F : Type 0} (faults : FaultValues F) (meaning : C → Instr F) (count : ℕ) (m : Machine C F) (run : Lockstep (node_steps faults meaning) (slice_get (openings count m)))
    (p q : ℕ) → (count ≤ p) ⊎ (count ≤ q) → sent q (all_moves run.phases run.last p) ≡ []
none-past {C} {F} faults meaning count m run p q past = by_cases (cases_lt p count) past
  where
    xs : List (Move Letter)
    xs = all_moves run.phases run.last p

    made : AreMovesAt (node_steps faults meaning) (by_number count (standing count m 1 (first_own count)) p) xs
    made = subst (λ o. AreMovesAt (node_steps faults meaning) o xs) (listed (standing count m 1 (first_own count)) count p)
        (run-made (node_steps faults meaning) run.phases run.number run.last (slice_get (openings count m)) run.run p)

    none-of : (b : Bool) → b ≡ false → AreMovesAt (node_steps faults meaning) (if b then Some (standing count m 1 (first_own count) p) else None) xs → sent q xs ≡ []
    none-of true e h = cc
    none-of false e h = ap (sent q) h

    by_cases : (p < count) ⊎ (count ≤ p) → (count ≤ p) ⊎ (count ≤ q) → sent q xs ≡ []
    by_cases (inr ge) h = none-of (nat_lt p count) (le-ltb p count ge) made
    by_cases (inl lt) (inl ge) = absurd (omega arith)
    by_cases (inl lt) (inr ge) = opening-past faults meaning count m p q ge xs
        (moves-of-node faults meaning count p p lt lt (nat_lt p count) (standing count m 1 (first_own count) p) xs (lt-ltb p count lt) made)
