-- What a node of a reached core does next: the node that it names exists, and the letter that it takes is the awaited one.
use Rattle.std.proofs.Common.{◌≡◌, ℕ, ◌+◌, ◌<◌, ◌≤◌, ◌⊎◌, inl, inr, List, [], ◌∷◌, ◌++◌, length, Option, Some, None, IsTrue, refl, sym, ◌∙◌, arith, append_assoc, append-nil, length-append, eq-eqb}
use Rattle.std.specs.List.{slice_get}
use Rattle.std.proofs.lemmas.Option.{slice_get_past}
use Rattle.std.proofs.lemmas.Bool.{cases_lt}
use Rattle.node_law.specs.declared.act.Act.TheVariants.{Send, Take, Done}
use Rattle.hpf_base.specs.declared.node.NodeId.{NodeId}
use Rattle.node_law.specs.NodeSteps.{NodeSteps, Move, Worked, Sent, Taken, IsMoveOf, after_all, AreMovesOf, AreMovesAt, after_at, IsDoneAt, sent, taken, IsPrefix}
use Rattle.node_law.specs.Phases.{PhaseShare, moves, AreLocal, AreAwaited, next_number, IsShareAt, IsEndAt, IsLockstep, Lockstep, all_moves}
use Rattle.node_law.specs.Cores.{CoreState, core_move, core_step, moves_in}
use Rattle.node_law.proofs.Prefixes.{sent-append, taken-append, append_at, after_at-append, moves-back, number-eq}
use Rattle.node_law.proofs.LawOfPrefixes.{ShareFacts, share-facts, end-taken, end-made, end-done}
use Rattle.node_law.proofs.History.{IsHistory, history-step}
use Rattle.node_law.proofs.NeverStuck.{prefix-rest, prefix-append, confluence, sent-longer, taken-longer, end-sent}

module _ {N M : Type 0} (S : NodeSteps N M) where
  abbrev pub AwaitedAt : Option N → List (Move M) → Type 0
  AwaitedAt None xs = Unit {0}
  AwaitedAt (Some a) xs = AreAwaited S a xs

  pub local-awaited : (a : N) (xs : List (Move M)) → AreLocal xs → AreAwaited S a xs
  local-awaited a [] h = tt
  local-awaited a (Worked ∷ xs) h = local-awaited (S.after_local a) xs h
  local-awaited a (Sent q m ∷ xs) h = absurd h
  local-awaited a (Taken q m ∷ xs) h = absurd h

  pub awaited-append : (a : N) (xs ys : List (Move M)) → AreAwaited S a xs → AreAwaited S (after_all S a xs) ys → AreAwaited S a (xs ++ ys)
  awaited-append a [] ys hx hy = hy
  awaited-append a (Worked ∷ xs) ys hx hy = awaited-append (S.after_local a) xs ys hx hy
  awaited-append a (Sent q m ∷ xs) ys hx hy = awaited-append (S.after_send a) xs ys hx hy
  awaited-append a (Taken q m ∷ xs) ys hx hy = (hx.0, awaited-append (S.after_take m a) xs ys hx.1 hy)

  pub awaited-back : (a : N) (xs ys : List (Move M)) → AreAwaited S a (xs ++ ys) → AreAwaited S (after_all S a xs) ys
  awaited-back a [] ys h = h
  awaited-back a (Worked ∷ xs) ys h = awaited-back (S.after_local a) xs ys h
  awaited-back a (Sent q m ∷ xs) ys h = awaited-back (S.after_send a) xs ys h
  awaited-back a (Taken q m ∷ xs) ys h = awaited-back (S.after_take m a) xs ys h.1

  awaited-append_at : (n : ℕ) (o : Option N) (share : PhaseShare M) (ys : List (Move M)) → IsShareAt S n o share
      → AwaitedAt (after_at S o (moves share)) ys → AwaitedAt o (moves share ++ ys)
  awaited-append_at n None share ys hx hy = tt
  awaited-append_at n (Some a) share ys hx hy = awaited-append a (moves share) ys hx.awaited hy

  awaited-end : (o : Option N) (xs : List (Move M)) → IsEndAt S o xs → AwaitedAt o xs
  awaited-end None xs h = tt
  awaited-end (Some a) xs h = local-awaited a xs h.1

  -- the moves of a whole lockstep run
  run-awaited : (phases : List (ℕ → PhaseShare M)) (n : ℕ) (last : ℕ → List (Move M)) (ms : ℕ → Option N) → IsLockstep S n ms phases last → (p : ℕ)
      → AwaitedAt (ms p) (all_moves phases last p)
  run-awaited [] n last ms h p = awaited-end (ms p) (last p) (h p)
  run-awaited (shares ∷ phases) n last ms h p =
      awaited-append_at n (ms p) (shares p) (all_moves phases last p) (h.0.each p)
      (run-awaited phases (next_number n) last (λ r. after_at S (ms r) (moves (shares r))) h.1 p)

  pub run-made : (phases : List (ℕ → PhaseShare M)) (n : ℕ) (last : ℕ → List (Move M)) (ms : ℕ → Option N) → IsLockstep S n ms phases last → (p : ℕ)
      → AreMovesAt S (ms p) (all_moves phases last p)
  run-made [] n last ms h p = end-made S (ms p) (last p) (h p)
  run-made (shares ∷ phases) n last ms h p =
      append_at S (ms p) (moves (shares p)) (all_moves phases last p) (share-facts S n (ms p) (shares p) (h.0.each p)).made
      (run-made phases (next_number n) last (λ r. after_at S (ms r) (moves (shares r))) h.1 p)

  pub run-done : (phases : List (ℕ → PhaseShare M)) (n : ℕ) (last : ℕ → List (Move M)) (ms : ℕ → Option N) → IsLockstep S n ms phases last → (p : ℕ)
      → IsDoneAt S (after_at S (ms p) (all_moves phases last p))
  run-done [] n last ms h p = end-done S (ms p) (last p) (h p)
  run-done (shares ∷ phases) n last ms h p =
      rw (after_at-append S (ms p) (moves (shares p)) (all_moves phases last p))
      (run-done phases (next_number n) last (λ r. after_at S (ms r) (moves (shares r))) h.1 p)

  pub run-letters : (phases : List (ℕ → PhaseShare M)) (n : ℕ) (last : ℕ → List (Move M)) (ms : ℕ → Option N) → IsLockstep S n ms phases last
      → (p q : ℕ) → sent q (all_moves phases last p) ≡ taken p (all_moves phases last q)
  run-letters [] n last ms h p q = end-sent S (ms p) (last p) q (h p) ∙ sym (end-taken S (ms q) (last q) p (h q))
  run-letters (shares ∷ phases) n last ms h p q =
      let f : ShareFacts S (ms p) (shares p) = share-facts S n (ms p) (shares p) (h.0.each p) in
      let g : ShareFacts S (ms q) (shares q) = share-facts S n (ms q) (shares q) (h.0.each q) in
      let ih : sent q (all_moves phases last p) ≡ taken p (all_moves phases last q) = run-letters phases (next_number n) last (λ r. after_at S (ms r) (moves (shares r))) h.1 p q in
      simp (sent-append, taken-append, f.back_sent q, g.front_taken p, append-nil, h.0.letters p q, ih)

  module _ (ns : List N) (run : Lockstep S (slice_get ns)) (c : CoreState N M) (H : ℕ → List (Move M)) (history : IsHistory S ns c H) where
    L : ℕ → List (Move M)
    L p = all_moves run.phases run.last p

    -- the node that stood there at the start
    from-node : (p : ℕ) (a : N) → slice_get c.nodes p ≡ Some a → (b : N) × (slice_get ns p ≡ Some b) × (a ≡ after_all S b (H p))
    from-node p a is = go (slice_get ns p) refl (history.now p)
      where
        go : (o : Option N) → slice_get ns p ≡ o → slice_get c.nodes p ≡ after_at S o (H p) → (b : N) × (slice_get ns p ≡ Some b) × (a ≡ after_all S b (H p))
        go None e now = cc
        go (Some b) e now = (b, e, cc)

    -- there are no moves past the last node
    none-past : (t : ℕ) → length c.nodes ≤ t → L t ≡ []
    unfolding L
    none-past t past = go (slice_get ns t) (history.now t) (run-made run.phases run.number run.last (slice_get ns) run.run t)
      where
        go : (o : Option N) → slice_get c.nodes t ≡ after_at S o (H t) → AreMovesAt S o (all_moves run.phases run.last t) → all_moves run.phases run.last t ≡ []
        go None now made = made
        go (Some b) now made = let e : slice_get c.nodes t ≡ None = slice_get_past c.nodes t past in cc

    -- a node is Done, or it has a next move in the lockstep run
    pub next-move : (p : ℕ) (a : N) → slice_get c.nodes p ≡ Some a
        → (S.act a ≡ Done) ⊎ ((x : Move M) × IsPrefix (H p ++ (x ∷ [])) (all_moves run.phases run.last p) × IsMoveOf S a x)
    next-move p a is =
        let b = from-node p a is in
        let r = prefix-rest (H p) (all_moves run.phases run.last p) (confluence S ns run c H history p) in
        let made : AreMovesOf S b.0 (all_moves run.phases run.last p) = rw b.1 at (run-made run.phases run.number run.last (slice_get ns) run.run p) in
        let done : S.act (after_all S b.0 (all_moves run.phases run.last p)) ≡ Done = rw b.1 at (run-done run.phases run.number run.last (slice_get ns) run.run p) in
        go b.0 b.2 (all_moves run.phases run.last p) made done r.0 r.1
      where
        go : (b : N) → a ≡ after_all S b (H p) → (all : List (Move M)) → AreMovesOf S b all → S.act (after_all S b all) ≡ Done
            → (rest : List (Move M)) → H p ++ rest ≡ all → (S.act a ≡ Done) ⊎ ((x : Move M) × IsPrefix (H p ++ (x ∷ [])) all × IsMoveOf S a x)
        go b e all made done [] w =
            let same : all ≡ H p = sym w ∙ append-nil (H p) in
            inl (rw e (rw same at done))
        go b e all made done (x ∷ rest) w =
            let made2 : AreMovesOf S b (H p ++ (x ∷ rest)) = rw w made in
            let w2 : (H p ++ (x ∷ [])) ++ rest ≡ all = append_assoc (H p) (x ∷ []) rest ∙ w in
            inr (x, rw (← w2) (prefix-append (H p ++ (x ∷ [])) rest), rw e (moves-back S b (H p) (x ∷ rest) made2).0)

    no-letter-past : (p t : ℕ) (m : M) → IsPrefix (H p ++ (Sent t m ∷ [])) (all_moves run.phases run.last p) → t < length c.nodes
    unfolding L
    no-letter-past p t m prefix =
        elim (cases_lt t (length c.nodes)) [
          | inl h ↦ h
          | inr past ↦
              (let l = sent-longer t (H p ++ (Sent t m ∷ [])) (all_moves run.phases run.last p) prefix in
              let one : length (sent t (H p ++ (Sent t m ∷ []))) ≡ length (sent t (H p)) + 1 = rw (sent-append t (H p) (Sent t m ∷ []), length-append, eq-eqb t t refl) refl in
              let none : all_moves run.phases run.last t ≡ [] = none-past t past in
              let zero_sent : length (sent t (all_moves run.phases run.last p)) ≡ 0 = rw (run-letters run.phases run.number run.last (slice_get ns) run.run p t, none) refl in
              absurd (omega arith))
        ]

    no-take-past : (p t : ℕ) (m : M) → IsPrefix (H p ++ (Taken t m ∷ [])) (all_moves run.phases run.last p) → t < length c.nodes
    unfolding L
    no-take-past p t m prefix =
        elim (cases_lt t (length c.nodes)) [
          | inl h ↦ h
          | inr past ↦
              (let l = taken-longer t (H p ++ (Taken t m ∷ [])) (all_moves run.phases run.last p) prefix in
              let one : length (taken t (H p ++ (Taken t m ∷ []))) ≡ length (taken t (H p)) + 1 = rw (taken-append t (H p) (Taken t m ∷ []), length-append, eq-eqb t t refl) refl in
              let none : all_moves run.phases run.last t ≡ [] = none-past t past in
              let zero_taken : length (taken t (all_moves run.phases run.last p)) ≡ 0 = rw (← (run-letters run.phases run.number run.last (slice_get ns) run.run t p), none) refl in
              absurd (omega arith))
        ]

    -- it sends to a node, and takes from one
    pub target-in : (p : ℕ) (a : N) (q : NodeId) → slice_get c.nodes p ≡ Some a → S.act a ≡ Send q → q.0 < length c.nodes
    target-in p a q is e = elim (next-move p a is) [ inl d ↦ cc | inr x ↦ go x.0 x.1 x.2 ]
      where
        go : (x : Move M) → IsPrefix (H p ++ (x ∷ [])) (all_moves run.phases run.last p) → IsMoveOf S a x → q.0 < length c.nodes
        go Worked prefix does = cc
        go (Sent t m) prefix does = let w : q.0 ≡ t = number-eq q.0 t cc in rw w (no-letter-past p t m prefix)
        go (Taken t m) prefix does = cc

    pub source-in : (p : ℕ) (a : N) (q : NodeId) → slice_get c.nodes p ≡ Some a → S.act a ≡ Take q → q.0 < length c.nodes
    source-in p a q is e = elim (next-move p a is) [ inl d ↦ cc | inr x ↦ go x.0 x.1 x.2 ]
      where
        go : (x : Move M) → IsPrefix (H p ++ (x ∷ [])) (all_moves run.phases run.last p) → IsMoveOf S a x → q.0 < length c.nodes
        go Worked prefix does = cc
        go (Sent t m) prefix does = cc
        go (Taken t m) prefix does = let w : q.0 ≡ t = number-eq q.0 t cc in rw w (no-take-past p t m prefix)

    -- the letter that it takes is the awaited one
    pub awaited-in : (p : ℕ) (a : N) (q : NodeId) (m : M) (ms : List M) → slice_get c.nodes p ≡ Some a → S.act a ≡ Take q → c.queue q.0 p ≡ m ∷ ms → IsTrue (S.awaits a m)
    awaited-in p a q m ms is e front =
        let b = from-node p a is in
        let x : core_move S c p ≡ Some (Taken q.0 m) = rw (is, e, front) refl in
        let next : IsHistory S ns (core_step S c p) (λ r. H r ++ moves_in S p r (core_move S c p)) = history-step S ns c H p history in
        let same : H p ++ moves_in S p p (core_move S c p) ≡ H p ++ (Taken q.0 m ∷ []) = rw (x, eq-eqb p p refl) refl in
        let prefix : IsPrefix (H p ++ (Taken q.0 m ∷ [])) (all_moves run.phases run.last p) =
        rw same at (confluence S ns run (core_step S c p) (λ r. H r ++ moves_in S p r (core_move S c p)) next p) in
        let r = prefix-rest (H p ++ (Taken q.0 m ∷ [])) (all_moves run.phases run.last p) prefix in
        let all : AreAwaited S b.0 (all_moves run.phases run.last p) = rw b.1 at (run-awaited run.phases run.number run.last (slice_get ns) run.run p) in
        let w : H p ++ (Taken q.0 m ∷ r.0) ≡ all_moves run.phases run.last p = sym (append_assoc (H p) (Taken q.0 m ∷ []) r.0) ∙ r.1 in
        let all2 : AreAwaited S b.0 (H p ++ (Taken q.0 m ∷ r.0)) = rw w all in
        rw b.2 (awaited-back b.0 (H p) (Taken q.0 m ∷ r.0) all2).0
