-- How a core passes one phase: the local steps of it first, and then its sends and takes in any order.
use Rattle.std.proofs.Common.{◌≡◌, ℕ, zero, suc, ◌≢◌, ◌⊎◌, inl, inr, true, is_some, List, [], ◌∷◌, ◌++◌, Option, Some, None, refl, sym, ◌∙◌, ap, subst, arith, append-nil}
use Rattle.std.specs.List.{slice_get}
use Rattle.std.proofs.Math.Path.{fun_ext}
use Rattle.std.proofs.lemmas.Bool.Decides.{eqb_tells}
use Rattle.node_law.specs.declared.act.Act.TheVariants.{Local, Done}
use Rattle.node_law.specs.declared.stepped.Stepped.{Stepped}
use Rattle.node_law.specs.NodeSteps.{NodeSteps, Move, Worked, Sent, Taken, IsMoveOf, AreMovesAt, after_at, IsDoneAt, sent, taken, IsPrefix}
use Rattle.node_law.specs.Phases.{PhaseShare, moves, next_number, TurnsNumber, IsShare, IsPhase, IsLockstep, Lockstep, all_moves}
use Rattle.node_law.specs.NextPhase.{UnfinishedAt, IsEarlierNumber, IsNextPhase}
use Rattle.node_law.specs.Cores.{CoreState, start, core_move, core_step, move_at, moved, nodes_after, queue_after, made_in, IsEnabled}
use Rattle.node_law.specs.Reached.{RunsTo, IsStep}
use Rattle.node_law.proofs.Prefixes.{prefix-refl, sent-append, taken-append, append_at, after_at-append, no-move-done, done-whole_at}
use Rattle.node_law.proofs.LawOfPrefixes.{law_of_prefixes}
use Rattle.node_law.proofs.History.{IsHistory, history-reached, nodes_after_same, nodes_after_other}
use Rattle.node_law.proofs.NeverStuck.{never_stuck}
use Rattle.node_law.proofs.NextMove.{next-move, run-made, run-done, run-letters}
use Rattle.node_law.proofs.MovesLeft.{history-is, run-append}
use Rattle.node_law.proofs.PhaseAlone.{only_phase, inside, after-same, phase-passed, step-inside, step-outside, number-turns}
use Rattle.node_law.proofs.UnderWay.{HasNoWork, Passes, local-next}

module _ {N M : Type 0} (S : NodeSteps N M) where
  module _ (ns : List N) (k : ℕ) (shares : ℕ → PhaseShare M) (h : IsPhase S k (slice_get ns) shares) where
    phase-number : (m : ℕ) → UnfinishedAt S ns m → (m ≡ k) ⊎ (m ≡ next_number k)
    phase-number m (p, a, is, d, e) = go (moves (shares p)) (let share : IsShare S k a (shares p) = rw is at (h.each p) in share.number)
      where
        go : (xs : List (Move M)) → TurnsNumber S k a xs → (m ≡ k) ⊎ (m ≡ next_number k)
        go [] t = inr (sym e ∙ t)
        go (x ∷ xs) t = inl (sym e ∙ t.0)

    begun-unfinished : UnfinishedAt S ns k
    begun-unfinished =
        let b = h.begun in
        let share : IsShare S k b.1 (shares b.0) = rw b.2 at (h.each b.0) in
        (b.0, b.1, b.2, go b.1 b.3 (moves (shares b.0)) share.made share.number, b.3)
      where
        go : (a : N) → S.phase a ≡ k → (xs : List (Move M)) → AreMovesAt S (Some a) xs → TurnsNumber S k a xs → S.act a ≢ Done
        go a e [] made t d = number-turns k (sym e ∙ t)
        go a e (x ∷ xs) made t d = no-move-done S a x made.0 d

    chosen-is : (first n : ℕ) → UnfinishedAt S ns first → IsEarlierNumber S ns first n → n ≡ k
    chosen-is first n u (inl (e, none)) = elim (phase-number first u) [
      | inl f ↦ e ∙ f
      | inr f ↦ absurd (none k begun-unfinished (sym f))
    ]
    chosen-is first n u (inr (e, v)) = elim (phase-number n v) [
      | inl f ↦ f
      | inr f ↦ elim (phase-number first u) [
        | inl g ↦ absurd (omega arith)
        | inr g ↦ absurd (omega arith)
      ]
    ]

  -- it is the number of the next phase
  pub chosen-next : (ns : List N) (run : Lockstep S (slice_get ns)) (first n : ℕ) → UnfinishedAt S ns first → IsEarlierNumber S ns first n → IsNextPhase S n (slice_get ns)
  chosen-next ns run first n u c = go run.phases run.run
    where
      go : (phases : List (ℕ → PhaseShare M)) → IsLockstep S run.number (slice_get ns) phases run.last → IsNextPhase S n (slice_get ns)
      go [] h = inr (run.last, h)
      go (shares ∷ phases) h =
          let e : n ≡ run.number = chosen-is ns run.number shares h.0 first n u c in
          rw e (inl (record { shares = shares; each = h.0.each; letters = h.0.letters; to_others = h.0.to_others; phases = phases; last = run.last; rest = h.1 }))

  empty-queues : (c : CoreState N M) → ((p q : ℕ) → c.queue p q ≡ []) → c ≡ start c.nodes
  empty-queues c h = ap (λ (f : ℕ → ℕ → List M). let x : CoreState N M = record { nodes = c.nodes; queue = f } in x) (fun_ext (λ p. fun_ext (λ q. h p q)))

  -- a local step of a node at the number of the next phase
  module _ (c d : CoreState N M) (p : ℕ) (a : N) (stepped : Stepped) (is : slice_get c.nodes p ≡ Some a) (act : S.act a ≡ Local) (step : IsStep S c p stepped d) where
    after-local : (let x : CoreState N M = record { nodes = nodes_after S c.nodes p Worked; queue = c.queue } in d ≡ x)
    after-local = step.leads ∙ ap (moved S c p) (let e : core_move S c p ≡ Some Worked = rw (is, act) refl in e)

    pub local-empty : c ≡ start c.nodes → d ≡ start d.nodes
    local-empty e = empty-queues d (λ s t. ap (λ (x : CoreState N M). x.queue s t) after-local ∙ ap (λ (x : CoreState N M). x.queue s t) e)

    pub local-keeps : (n : ℕ) → S.phase a ≡ n → IsNextPhase S n (slice_get c.nodes) → IsNextPhase S n (slice_get d.nodes)
    local-keeps n e next =
        let ne : d.nodes ≡ nodes_after S c.nodes p Worked = ap (λ (x : CoreState N M). x.nodes) after-local in
        local-next S n (slice_get c.nodes) (slice_get d.nodes) p a is act e
        (ap (λ (l : List N). slice_get l p) ne ∙ nodes_after_same S c.nodes p Worked a is)
        (λ q d. ap (λ (l : List N). slice_get l q) ne ∙ nodes_after_other S c.nodes p q Worked d) next

  -- nodes that are reached with empty queues have the same last nodes
  pub same-end : (old new : List N) → RunsTo S (start old) (start new) → (run : Lockstep S (slice_get old)) (again : Lockstep S (slice_get new))
      → (p : ℕ) → after_at S (slice_get old p) (all_moves run.phases run.last p) ≡ after_at S (slice_get new p) (all_moves again.phases again.last p)
  same-end old new r run again p =
      let H : ℕ → List (Move M) = made_in S (start old) r.0 in
      let A : ℕ → List (Move M) = all_moves again.phases again.last in
      let h : IsHistory S old (start new) H = subst (λ (c : CoreState N M). IsHistory S old c H) (sym r.1) (history-reached S old r.0) in
      let G : ℕ → List (Move M) = λ q. H q ++ A q in
      let made : (q : ℕ) → AreMovesAt S (slice_get old q) (G q) =
      λ q.
      append_at S (slice_get old q) (H q) (A q) (h.made q)
      (rw (h.now q) at (run-made S again.phases again.number again.last (slice_get new) again.run q)) in
      let letters : (s t : ℕ) → sent t (G s) ≡ taken s (G t) =
      λ s t.
      rw (
        sent-append t (H s) (A s),
        taken-append s (H t) (A t),
        h.letters s t,
        append-nil (taken s (H t)),
        run-letters S again.phases again.number again.last (slice_get new) again.run s t,
      ) refl in
      let prefix : IsPrefix (G p) (all_moves run.phases run.last p) = law_of_prefixes S (slice_get old) run G made (λ s t. rw (letters s t) (prefix-refl (taken s (G t)))) p in
      let on : after_at S (slice_get old p) (G p) ≡ after_at S (slice_get new p) (A p) =
      after_at-append S (slice_get old p) (H p) (A p) ∙ ap (λ (o : Option N). after_at S o (A p)) (sym (h.now p)) in
      let done : IsDoneAt S (after_at S (slice_get old p) (G p)) = rw on (run-done S again.phases again.number again.last (slice_get new) again.run p) in
      ap (after_at S (slice_get old p))
      (sym
      (done-whole_at S (slice_get old p) (G p) (all_moves run.phases run.last p) (made p)
      (run-made S run.phases run.number run.last (slice_get old) run.run p) done prefix)) ∙ on

module _ {N M : Type 0} (S : NodeSteps N M) (n : ℕ) where
  nodes-same : (ns : List N) (p : ℕ) (x : Move M) → nodes_after (only_phase S n) ns p x ≡ nodes_after S ns p x
  nodes-same [] p x = refl
  nodes-same (a ∷ ns) zero x = ap (λ (b : N). b ∷ ns) (after-same S n a x)
  nodes-same (a ∷ ns) (suc p) x = ap (λ (l : List N). a ∷ l) (nodes-same ns p x)

  moved-same : (c : CoreState N M) (p : ℕ) (m : Option (Move M)) → moved (only_phase S n) c p m ≡ moved S c p m
  moved-same c p None = refl
  moved-same c p (Some x) = ap (λ (l : List N). let y : CoreState N M = record { nodes = l; queue = queue_after c.queue p x } in y) (nodes-same c.nodes p x)

  -- a core step of a node at the number is one of the phase alone
  pub alone-on : (c d e : CoreState N M) (p : ℕ) (a : N) (stepped : Stepped) → RunsTo (only_phase S n) c d → slice_get d.nodes p ≡ Some a
      → S.phase a ≡ n → IsStep S d p stepped e → RunsTo (only_phase S n) c e
  alone-on c d e p a stepped r is at step = (
    r.0 ++ (p ∷ []),
    step.leads ∙ sym (moved-same d p (core_move S d p)) ∙ sym (ap (moved (only_phase S n) d p) (step-inside S n d p a is at))
        ∙ ap (λ (x : CoreState N M). core_step (only_phase S n) x p) r.1 ∙ sym (run-append (only_phase S n) r.0 (p ∷ []) c),
  )

  no-work : (h all : List (Move M)) → HasNoWork all → IsPrefix (h ++ (Worked ∷ [])) all → ⊥
  no-work [] [] w b = b
  no-work [] (Worked ∷ all) w b = w
  no-work [] (Sent q m ∷ all) w b = cc
  no-work [] (Taken q m ∷ all) w b = cc
  no-work (x ∷ h) [] w b = b
  no-work (x ∷ h) (Worked ∷ all) w b = w
  no-work (x ∷ h) (Sent q m ∷ all) w b = no-work h all w b.1
  no-work (x ∷ h) (Taken q m ∷ all) w b = no-work h all w b.1

  -- a core that is reached in the phase alone, where no local step of it was left
  module _ (ns : List N) (w : Passes S n (slice_get ns)) (c : CoreState N M) (r : RunsTo (only_phase S n) (start ns) c) where
    H : ℕ → List (Move M)
    H = made_in (only_phase S n) (start ns) r.0

    history : IsHistory (only_phase S n) ns c H
    unfolding H
    history = history-is (only_phase S n) c (record { from = ns; run = w.alone; choices = r.0; is = r.1 })

    pub not-local : (p : ℕ) (a : N) → slice_get c.nodes p ≡ Some a → S.phase a ≡ n → S.act a ≢ Local
    not-local p a is e local =
        elim (next-move (only_phase S n) ns w.alone c H history p a is) [
          | inl d ↦ (let k : Done ≡ Local = sym d ∙ inside S n a e ∙ local in absurd (cc))
          | inr x ↦ go x.0 x.1 x.2
        ]
      where
        go : (x : Move M) → IsPrefix (H p ++ (x ∷ [])) (all_moves w.alone.phases w.alone.last p) → IsMoveOf (only_phase S n) a x → ⊥
        go Worked b does = no-work (H p) (all_moves w.alone.phases w.alone.last p) (w.letters_only p) b
        go (Sent q m) b does = let k = sym does.0 ∙ inside S n a e ∙ local in cc
        go (Taken q m) b does = let k = sym does ∙ inside S n a e ∙ local in cc

    -- where none of its nodes can make a move in the phase, all have passed it
    pub all-passed : ((p : ℕ) (a : N) → slice_get c.nodes p ≡ Some a → S.phase a ≡ n → S.act a ≢ Local → ¬ IsEnabled S c p) → (p : ℕ)
        → IsDoneAt (only_phase S n) (slice_get c.nodes p)
    all-passed none = elim (never_stuck (only_phase S n) ns w.alone c H history) [ inl done ↦ done | inr some ↦ absurd (stuck some.0 some.1 (slice_get c.nodes some.0) refl) ]
      where
        clash : (o : Option (Move M)) → o ≡ None → is_some o ≡ true → ⊥
        clash None e t = cc
        clash (Some x) e t = cc

        stuck : (p : ℕ) → IsEnabled (only_phase S n) c p → (o : Option N) → slice_get c.nodes p ≡ o → ⊥
        stuck p h None is = clash (core_move (only_phase S n) c p) (ap (move_at (only_phase S n) c.queue p) is) h
        stuck p h (Some a) is = elim (eqb_tells (S.phase a) n) [
          | inl e ↦ none p a is e.1 (not-local p a is e.1) (ap is_some (sym (step-inside S n c p a is e.1)) ∙ h)
          | inr e ↦ clash (core_move (only_phase S n) c p) (step-outside S n c p a is e.1) h
        ]

    module _ (done : (p : ℕ) → IsDoneAt (only_phase S n) (slice_get c.nodes p)) where
      pub passed-done : (p : ℕ) (a : N) → slice_get c.nodes p ≡ Some a → S.phase a ≡ n → S.act a ≡ Done
      passed-done p a is e = sym (inside S n a e) ∙ (let d : IsDoneAt (only_phase S n) (Some a) = rw is at (done p) in d)

      pub passed-empty : c ≡ start c.nodes
      passed-empty = empty-queues S c (phase-passed S n ns w.alone r.0 c r.1 done).1

      pub passed-phased : Lockstep S (slice_get c.nodes)
      passed-phased = subst (λ (K : ℕ → Option N). Lockstep S K) (fun_ext (λ p. sym ((phase-passed S n ns w.alone r.0 c r.1 done).0 p))) w.rest
