-- Confluence, and that a core is never stuck.
use Rattle.std.proofs.Common.{◌≡◌, ℕ, zero, suc, ◌+◌, ◌<◌, ◌≤◌, ◌⊎◌, inl, inr, List, [], ◌∷◌, ◌++◌, length, Option, Some, None, IsSome, refl, sym, ◌∙◌, ap, subst, arith, append_assoc, append-nil, eq-eqb, length-append}
use Rattle.std.specs.List.{slice_get, All}
use Rattle.std.proofs.lemmas.Bool.{lt-ltb, ne_eqb, cases_eq}
use Rattle.std.proofs.lemmas.Bool.Decides.{eqb_tells}
use Rattle.std.proofs.lemmas.Option.{slice_get_past, slice_get-get_or}
use Rattle.node_law.specs.declared.act.Act.TheVariants.{Done}
use Rattle.node_law.specs.NodeSteps.{NodeSteps, Move, Worked, Sent, Taken, IsMoveOf, after_all, AreMovesOf, AreMovesAt, after_at, IsDoneAt, sent, taken, IsPrefix}
use Rattle.node_law.specs.Phases.{PhaseShare, moves, AreSends, IsFront, next_number, IsShareAt, IsEndAt, IsLockstep, Lockstep, all_moves}
use Rattle.node_law.specs.Cores.{capacity, CoreState, start, take_of, core_run, made_in, IsEnabled, IsFinished}
use Rattle.node_law.proofs.Prefixes.{prefix-refl, sent-append, taken-append, append_at, after_at-append, moves-back}
use Rattle.node_law.proofs.LawOfPrefixes.{ShareFacts, share-facts, AllTaken, all_taken-start, all_taken-next, end-taken, end-made, end-done, local-sent, law_of_prefixes}
use Rattle.node_law.proofs.History.{IsHistory, history-reached}

-- a prefix of a list is followed there by the rest
pub prefix-rest : {A : Type 0} (xs ys : List A) → IsPrefix xs ys → (rest : List A) × (xs ++ rest ≡ ys)
prefix-rest [] ys h = (ys, refl)
prefix-rest (x ∷ xs) [] h = absurd h
prefix-rest (x ∷ xs) (y ∷ ys) h = let r = prefix-rest xs ys h.1 in (r.0, cc)

pub prefix-append : {A : Type 0} (xs ys : List A) → IsPrefix xs (xs ++ ys)
prefix-append [] ys = tt
prefix-append (x ∷ xs) ys = (refl, prefix-append xs ys)

pub prefix-both : {A : Type 0} (xs ys : List A) → IsPrefix xs ys → IsPrefix ys xs → xs ≡ ys
prefix-both [] [] h k = refl
prefix-both [] (y ∷ ys) h k = absurd k
prefix-both (x ∷ xs) [] h k = absurd h
prefix-both (x ∷ xs) (y ∷ ys) h k = let e = prefix-both xs ys h.1 k.1 in cc

pub prefix-trans : {A : Type 0} (xs ys zs : List A) → IsPrefix xs ys → IsPrefix ys zs → IsPrefix xs zs
prefix-trans [] ys zs h k = tt
prefix-trans (x ∷ xs) [] zs h k = absurd h
prefix-trans (x ∷ xs) (y ∷ ys) [] h k = absurd k
prefix-trans (x ∷ xs) (y ∷ ys) (z ∷ zs) h k = (h.0 ∙ k.0, prefix-trans xs ys zs h.1 k.1)

-- of two prefixes of one list, the second is a prefix of the first, or the first goes on in the second
pub prefix-or-on : {A : Type 0} (xs ys all : List A) → IsPrefix xs all → IsPrefix ys all → IsPrefix ys xs ⊎ ((x : A) × IsPrefix (xs ++ (x ∷ [])) ys)
prefix-or-on xs [] all hx hy = inl tt
prefix-or-on [] (y ∷ ys) all hx hy = inr (y, (refl, tt))
prefix-or-on (x ∷ xs) (y ∷ ys) [] hx hy = absurd hx
prefix-or-on (x ∷ xs) (y ∷ ys) (z ∷ all) hx hy =
    elim (prefix-or-on xs ys all hx.1 hy.1) [
      | inl h ↦ inl (hy.0 ∙ sym hx.0, h)
      | inr h ↦ inr (h.0, (hx.0 ∙ sym hy.0, h.1))
    ]

-- each below n has A, or there is a B
pub each-or : (A : ℕ → Type 0) (B : Type 0) (n : ℕ) → ((p : ℕ) → A p ⊎ B) → ((p : ℕ) → n ≤ p → A p) → ((p : ℕ) → A p) ⊎ B
each-or A B zero f past = inl (λ p. past p (omega arith))
each-or A B (suc n) f past =
    elim (f n) [
      | inl a ↦ each-or A B n f (λ p h. elim (cases_eq n p) [ inl e ↦ subst A e a | inr d ↦ past p (omega arith) ])
      | inr b ↦ inr b
    ]

module _ {M : Type 0} where
  pub sent-longer : (q : ℕ) (xs ys : List (Move M)) → IsPrefix xs ys → length (sent q xs) ≤ length (sent q ys)
  sent-longer q xs ys h =
      let r = prefix-rest xs ys h in
      let e : sent q xs ++ sent q r.0 ≡ sent q ys = sym (sent-append q xs r.0) ∙ ap (sent q) r.1 in
      omega (arith, simp length-append at (ap length e))

  pub taken-longer : (q : ℕ) (xs ys : List (Move M)) → IsPrefix xs ys → length (taken q xs) ≤ length (taken q ys)
  taken-longer q xs ys h =
      let r = prefix-rest xs ys h in
      let e : taken q xs ++ taken q r.0 ≡ taken q ys = sym (taken-append q xs r.0) ∙ ap (taken q) r.1 in
      omega (arith, simp length-append at (ap length e))

  -- nothing goes to a target that is passed
  sends-past : (least q : ℕ) (xs : List (Move M)) → AreSends least xs → q < least → sent q xs ≡ []
  sends-past least q [] h lt = refl
  sends-past least q (Worked ∷ xs) h lt = absurd h
  sends-past least q (Sent t m ∷ xs) h lt =
      let d : t ≡ q → ⊥ = λ e. absurd (omega arith) in
      rw (ne_eqb t q d) (sends-past (t + 1) q xs h.1 (omega arith))
  sends-past least q (Taken t m ∷ xs) h lt = absurd h

  -- at most one letter goes to each target
  sends-one : (least q : ℕ) (xs : List (Move M)) → AreSends least xs → length (sent q xs) ≤ 1
  sends-one least q [] h = omega arith
  sends-one least q (Worked ∷ xs) h = absurd h
  sends-one least q (Sent t m ∷ xs) h =
      elim (eqb_tells t q) [
        | inl e ↦ (let none : sent q xs ≡ [] = sends-past (t + 1) q xs h.1 (omega arith) in rw (e.0, none) (omega arith))
        | inr e ↦ rw e.0 (sends-one (t + 1) q xs h.1)
      ]
  sends-one least q (Taken t m ∷ xs) h = absurd h

  front-one : (q : ℕ) (xs : List (Move M)) → IsFront xs → length (sent q xs) ≤ 1
  front-one q [] h = omega arith
  front-one q (Worked ∷ xs) h = front-one q xs h
  front-one q (Sent t m ∷ xs) h = sends-one t q (Sent t m ∷ xs) h
  front-one q (Taken t m ∷ xs) h = absurd h

module _ {N M : Type 0} (S : NodeSteps N M) where
  share-one : (n : ℕ) (o : Option N) (share : PhaseShare M) → IsShareAt S n o share → (q : ℕ) → length (sent q share.front) ≤ 1
  share-one n None share h q = let e : share.front ≡ [] = none share.front share.back h in rw e (omega arith)
    where
      none : (xs ys : List (Move M)) → xs ++ ys ≡ [] → xs ≡ []
      none [] ys e = refl
      none (x ∷ xs) ys e = cc
  share-one n (Some a) share h q = front-one q share.front h.front

  pub end-sent : (o : Option N) (xs : List (Move M)) (q : ℕ) → IsEndAt S o xs → sent q xs ≡ []
  end-sent None xs q h = rw h refl
  end-sent (Some a) xs q h = local-sent q xs h.1

  -- a node whose next move has room is enabled
  enabled-by : (c : CoreState N M) (p : ℕ) (a : N) (x : Move M) → slice_get c.nodes p ≡ Some a → IsMoveOf S a x
      → ((q : ℕ) (m : M) → x ≡ Sent q m → length (c.queue p q) < capacity) → ((q : ℕ) (m : M) → x ≡ Taken q m → 0 < length (c.queue q p))
      → IsEnabled S c p
  enabled-by c p a Worked is does send take = rw (is, does) refl
  enabled-by c p a (Sent q m) is does send take = rw (is, does.0, lt-ltb (length (c.queue p q)) capacity (send q m refl)) refl
  enabled-by c p a (Taken q m) is does send take = rw (is, does) (front q (c.queue q p) (take q m refl))
    where
      front : (q : ℕ) (ms : List M) → 0 < length ms → IsSome (take_of S q ms)
      front q [] h = absurd (omega arith)
      front q (y ∷ ms) h = refl

  -- a core to which the moves H lead from ns, and the lockstep run of ns
  module _ (ns : List N) (run : Lockstep S (slice_get ns)) (c : CoreState N M) (H : ℕ → List (Move M)) (history : IsHistory S ns c H) where
    -- confluence: each node has made the first of its moves in the lockstep run
    pub confluence : (p : ℕ) → IsPrefix (H p) (all_moves run.phases run.last p)
    confluence p = law_of_prefixes S (slice_get ns) run H history.made (λ s t. rw (history.letters s t) (prefix-append (taken s (H t)) (c.queue s t))) p

    -- where the next move of the node p stands in G, which takes no more than was sent to p and sends no more than there is room for
    enabled-next : (p : ℕ) (G : List (Move M)) (x : Move M) → AreMovesAt S (slice_get ns p) G → IsPrefix (H p ++ (x ∷ [])) G
        → ((q : ℕ) → length (taken q G) ≤ length (sent p (H q))) → ((q : ℕ) → length (sent q G) ≤ length (taken p (H q)) + capacity) → IsEnabled S c p
    enabled-next p G x made prefix takes sends = go (slice_get ns p) refl made
      where
        lengths : (s t : ℕ) → length (sent t (H s)) ≡ length (taken s (H t)) + length (c.queue s t)
        lengths s t = ap length (history.letters s t) ∙ length-append (taken s (H t)) (c.queue s t)

        go : (o : Option N) → slice_get ns p ≡ o → AreMovesAt S o G → IsEnabled S c p
        go None is h = absurd (none (H p) (subst (λ (ys : List (Move M)). IsPrefix (H p ++ (x ∷ [])) ys) h prefix))
          where
            none : (xs : List (Move M)) → IsPrefix (xs ++ (x ∷ [])) [] → ⊥
            none [] e = e
            none (y ∷ xs) e = e
        go (Some a) is h =
            let r = prefix-rest (H p ++ (x ∷ [])) G prefix in
            let all : AreMovesOf S a ((H p ++ (x ∷ [])) ++ r.0) = rw r.1 h in
            let next : IsMoveOf S (after_all S a (H p)) x = (moves-back S a (H p) (x ∷ r.0) (rw append_assoc at all)).0 in
            enabled-by c p (after_all S a (H p)) x (history.now p ∙ ap (λ (n : Option N). after_at S n (H p)) is) next
            (λ q m e.
            let t : length (sent q (H p ++ (x ∷ []))) ≡ length (sent q (H p)) + 1 = rw (e, sent-append q (H p) (Sent q m ∷ []), length-append, eq-eqb q q refl) refl in
            let l = sent-longer q (H p ++ (x ∷ [])) G prefix in
            let k = lengths p q in
            let g = sends q in
            omega arith)
            (λ q m e.
            let t : length (taken q (H p ++ (x ∷ []))) ≡ length (taken q (H p)) + 1 = rw (e, taken-append q (H p) (Taken q m ∷ []), length-append, eq-eqb q q refl) refl in
            let l = taken-longer q (H p ++ (x ∷ [])) G prefix in
            let k = lengths q p in
            let g = takes q in
            omega arith)

    -- each node has passed this stage of the lockstep run, or one is enabled
    stage : (G : ℕ → List (Move M)) → ((p : ℕ) → AreMovesAt S (slice_get ns p) (G p)) → ((p : ℕ) → IsPrefix (G p) (all_moves run.phases run.last p))
        → ((p q : ℕ) → length (taken q (G p)) ≤ length (sent p (H q))) → ((p q : ℕ) → length (sent q (G p)) ≤ length (taken p (H q)) + capacity)
        → ((p : ℕ) → IsPrefix (G p) (H p)) ⊎ ((p : ℕ) × IsEnabled S c p)
    stage G made prefix takes sends =
        each-or (λ p. IsPrefix (G p) (H p)) ((p : ℕ) × IsEnabled S c p) (length ns)
        (λ p. elim (prefix-or-on (H p) (G p) (all_moves run.phases run.last p) (confluence p) (prefix p)) [
          | inl h ↦ inl h
          | inr h ↦ inr (p, enabled-next p (G p) h.0 (made p) h.1 (takes p) (sends p))
        ])
        (λ p past. none (slice_get ns p) (G p) (H p) (slice_get_past ns p past) (made p))
      where
        none : (o : Option N) (xs ys : List (Move M)) → o ≡ None → AreMovesAt S o xs → IsPrefix xs ys
        none None xs ys e h = rw h tt
        none (Some a) xs ys e h = cc

    stuck-from : (phases : List (ℕ → PhaseShare M)) (n : ℕ) (last : ℕ → List (Move M)) (ms : ℕ → Option N) (X : ℕ → List (Move M))
        → AllTaken S (slice_get ns) ms X → ((p : ℕ) → IsPrefix (X p) (H p)) → IsLockstep S n ms phases last
        → ((p : ℕ) → X p ++ all_moves phases last p ≡ all_moves run.phases run.last p)
        → ((p : ℕ) → IsDoneAt S (slice_get c.nodes p)) ⊎ ((p : ℕ) × IsEnabled S c p)
    stuck-from [] n last ms X e passed h whole =
        let G : ℕ → List (Move M) = λ p. X p ++ last p in
        let made : (p : ℕ) → AreMovesAt S (slice_get ns p) (G p) =
        λ p. append_at S (slice_get ns p) (X p) (last p) (e.made p) (rw (e.now p) at (end-made S (ms p) (last p) (h p))) in
        let takes : (p q : ℕ) → length (taken q (G p)) ≤ length (sent p (H q)) = λ p q.
        simp (taken-append, end-taken S (ms p) (last p) q (h p), append-nil, ← (e.letters q p)) (sent-longer p (X q) (H q) (passed q)) in
        let sends : (p q : ℕ) → length (sent q (G p)) ≤ length (taken p (H q)) + capacity = λ p q.
        let l = taken-longer p (X q) (H q) (passed q) in
        simp (sent-append, end-sent (ms p) (last p) q (h p), append-nil, e.letters p q) (omega arith) in
        elim (stage G made (λ p. rw (← (whole p)) (prefix-refl (G p))) takes sends) [
          | inl all ↦ inl (λ p.
              let same : H p ≡ G p = prefix-both (H p) (G p) (rw (whole p) (confluence p)) (all p) in
              rw (history.now p, same, after_at-append S (slice_get ns p) (X p) (last p), ← (e.now p)) (end-done S (ms p) (last p) (h p)))
          | inr some ↦ inr some
        ]
    stuck-from (shares ∷ phases) n last ms X e passed h whole =
        let f : (p : ℕ) → ShareFacts S (ms p) (shares p) = λ p. share-facts S n (ms p) (shares p) (h.0.each p) in
        let F : ℕ → List (Move M) = λ p. X p ++ (shares p).front in
        let Y : ℕ → List (Move M) = λ p. X p ++ moves (shares p) in
        let next : AllTaken S (slice_get ns) (λ p. after_at S (ms p) (moves (shares p))) Y = all_taken-next S n (slice_get ns) ms X shares e h.0 in
        let rest : (p : ℕ) → Y p ++ all_moves phases last p ≡ all_moves run.phases run.last p = λ p. append_assoc (X p) (moves (shares p)) (all_moves phases last p) ∙ whole p in
        let prefixY : (p : ℕ) → IsPrefix (Y p) (all_moves run.phases run.last p) = λ p. rw (← (rest p)) (prefix-append (Y p) (all_moves phases last p)) in
        let joined : (p : ℕ) → F p ++ (shares p).back ≡ Y p = λ p. append_assoc (X p) (shares p).front (shares p).back in
        let prefixF : (p : ℕ) → IsPrefix (F p) (all_moves run.phases run.last p) =
        λ p. prefix-trans (F p) (Y p) (all_moves run.phases run.last p) (rw (← (joined p)) (prefix-append (F p) (shares p).back)) (prefixY p) in
        let madeF : (p : ℕ) → AreMovesAt S (slice_get ns p) (F p) = λ p. append_at S (slice_get ns p) (X p) (shares p).front (e.made p) (rw (e.now p) at (f p).made_front) in
        let takesF : (p q : ℕ) → length (taken q (F p)) ≤ length (sent p (H q)) = λ p q.
        simp (taken-append, (f p).front_taken q, append-nil, ← (e.letters q p)) (sent-longer p (X q) (H q) (passed q)) in
        let sendsF : (p q : ℕ) → length (sent q (F p)) ≤ length (taken p (H q)) + capacity = λ p q.
        let l = taken-longer p (X q) (H q) (passed q) in
        let one = share-one n (ms p) (shares p) (h.0.each p) q in
        simp (sent-append, length-append, e.letters p q) (omega arith) in
        elim (stage F madeF prefixF takesF sendsF) [
          | inl allF ↦
              (let takesY : (p q : ℕ) → length (taken q (Y p)) ≤ length (sent p (H q)) = λ p q.
              let t : taken q (Y p) ≡ sent p (F q) = simp (sent-append, taken-append, (f p).front_taken q, e.letters q p, h.0.letters q p) in
              rw t (sent-longer p (F q) (H q) (allF q)) in
              let sendsY : (p q : ℕ) → length (sent q (Y p)) ≤ length (taken p (H q)) + capacity = λ p q.
              let t : sent q (Y p) ≡ sent q (F p) = simp (sent-append, (f p).back_sent q, append-nil) in
              rw t (sendsF p q) in
              elim (stage Y next.made prefixY takesY sendsY) [
                | inl allY ↦ stuck-from phases (next_number n) last (λ p. after_at S (ms p) (moves (shares p))) Y next allY h.1 rest
                | inr some ↦ inr some
              ])
          | inr some ↦ inr some
        ]

    -- a core is never stuck: all its nodes are Done, or one is enabled
    pub never_stuck : ((p : ℕ) → IsDoneAt S (slice_get c.nodes p)) ⊎ ((p : ℕ) × IsEnabled S c p)
    never_stuck = stuck-from run.phases run.number run.last (slice_get ns) (λ p. []) (all_taken-start S (slice_get ns)) (λ p. tt) run.run (λ p. refl)

  pub all-done : (ns : List N) → ((p : ℕ) → IsDoneAt S (slice_get ns p)) → All (λ a. S.act a ≡ Done) ns
  all-done ns h k d lt = rw (slice_get-get_or ns k d lt) at (h k)

  pub done-at : (ns : List N) → All (λ a. S.act a ≡ Done) ns → (p : ℕ) → IsDoneAt S (slice_get ns p)
  done-at [] h p = tt
  done-at (a ∷ ns) h zero = h 0 a (omega arith)
  done-at (a ∷ ns) h (suc p) = done-at ns (λ k d lt. h (suc k) d (omega arith)) p

  pub not_stuck : (ns : List N) → Lockstep S (slice_get ns) → (choices : List ℕ)
      → IsFinished S (core_run S (start ns) choices) ⊎ ((p : ℕ) × IsEnabled S (core_run S (start ns) choices) p)
  not_stuck ns run choices =
      let c : CoreState N M = core_run S (start ns) choices in
      elim (never_stuck ns run c (made_in S (start ns) choices) (history-reached S ns choices)) [
        | inl done ↦ inl (all-done c.nodes done)
        | inr some ↦ inr some
      ]
