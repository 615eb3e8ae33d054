-- How many moves are left: a step takes one away, none are left exactly at the end, and it's one number, however the core was reached.
use Rattle.std.proofs.Common.{◌≡◌, ℕ, zero, suc, ◌+◌, ◌-◌, ◌<◌, ◌≤◌, ◌≢◌, inl, inr, List, [], ◌∷◌, ◌++◌, length, Option, Some, None, IsSome, refl, sym, ◌∙◌, ap, subst, arith, append_assoc, append-nil, length-append}
use Rattle.std.specs.List.{slice_get}
use Rattle.std.proofs.lemmas.Bool.{cases_lt, cases_eq, eq-eqb, ne_eqb}
use Rattle.std.proofs.lemmas.Option.{slice_get_past, slice_get_within}
use Rattle.node_law.specs.declared.act.Act.TheVariants.{Done}
use Rattle.node_law.specs.NodeSteps.{NodeSteps, Move, after_all, AreMovesOf, AreMovesAt, after_at, IsDoneAt, IsPrefix}
use Rattle.node_law.specs.Phases.{all_moves}
use Rattle.node_law.specs.Cores.{CoreState, start, core_move, core_step, core_run, moves_in, made_in, IsEnabled}
use Rattle.node_law.specs.Reached.{IsReached, total, moves_left}
use Rattle.node_law.proofs.History.{IsHistory, can-move, history-reached, history-step}
use Rattle.node_law.proofs.NeverStuck.{prefix-rest, confluence, never_stuck}
use Rattle.node_law.proofs.NextMove.{run-made, run-done}
use Rattle.node_law.proofs.Prefixes.{moves-back, no-move-done}

total-same : (n : ℕ) (f g : ℕ → ℕ) → ((q : ℕ) → q < n → f q ≡ g q) → total n f ≡ total n g
total-same zero f g h = refl
total-same (suc n) f g h = rw (h n (omega arith), total-same n f g (λ q lt. h q (omega arith))) refl

total-one : (n : ℕ) (f g : ℕ → ℕ) (p : ℕ) → p < n → f p ≡ suc (g p) → ((q : ℕ) → p ≢ q → f q ≡ g q) → total n f ≡ suc (total n g)
total-one zero f g p lt e h = absurd (omega arith)
total-one (suc n) f g p lt e h =
    elim (cases_eq p n) [
      | inl same ↦
          (let first : f n ≡ suc (g n) = rw (← same) e in
          let rest : total n f ≡ total n g = total-same n f g (λ q l. h q (λ w. absurd (omega arith))) in
          omega arith)
      | inr d ↦
          (let first : f n ≡ g n = h n d in
          let rest : total n f ≡ suc (total n g) = total-one n f g p (omega arith) e h in
          omega arith)
    ]

total-zero : (n : ℕ) (f : ℕ → ℕ) → total n f ≡ 0 → (q : ℕ) → q < n → f q ≡ 0
total-zero zero f e q lt = absurd (omega arith)
total-zero (suc n) f e q lt =
    elim (cases_eq q n) [
      | inl same ↦ rw same (omega arith)
      | inr d ↦ total-zero n f (omega arith) q (omega arith)
    ]

none-total : (n : ℕ) (f : ℕ → ℕ) → ((q : ℕ) → f q ≡ 0) → total n f ≡ 0
none-total zero f h = refl
none-total (suc n) f h = let a = h n in let b : total n f ≡ 0 = none-total n f h in omega arith

module _ {N M : Type 0} (S : NodeSteps N M) where
  pub run-append : (xs ys : List ℕ) (c : CoreState N M) → core_run S c (xs ++ ys) ≡ core_run S (core_run S c xs) ys
  run-append [] ys c = refl
  run-append (x ∷ xs) ys c = run-append xs ys (core_step S c x)

  -- a core step keeps that a core is reached
  abbrev pub reached-step : (c : CoreState N M) (p : ℕ) → IsReached S c → IsReached S (core_step S c p)
  reached-step c p r = record {
    from = r.from;
    run = r.run;
    choices = r.choices ++ (p ∷ []);
    is = ap (λ (d : CoreState N M). core_step S d p) r.is ∙ sym (run-append r.choices (p ∷ []) (start r.from));
  }

  some-is : {A : Type 0} → (o : Option A) → IsSome o → (x : A) × (o ≡ Some x)
  some-is None h = cc
  some-is (Some x) h = (x, refl)

  made-append : (ps : List ℕ) (c : CoreState N M) (p q : ℕ) → made_in S c (ps ++ (p ∷ [])) q ≡ made_in S c ps q ++ moves_in S p q (core_move S (core_run S c ps) p)
  made-append [] c p q = append-nil (moves_in S p q (core_move S c p))
  made-append (r ∷ ps) c p q =
      ap (λ (l : List (Move M)). moves_in S r q (core_move S c r) ++ l) (made-append ps (core_step S c r) p q)
      ∙ sym (append_assoc (moves_in S r q (core_move S c r)) (made_in S (core_step S c r) ps q) (moves_in S p q (core_move S (core_run S (core_step S c r) ps) p)))

  module _ (c : CoreState N M) (w : IsReached S c) where
    pub history-is : IsHistory S w.from c (made_in S (start w.from) w.choices)
    history-is = subst (λ (d : CoreState N M). IsHistory S w.from d (made_in S (start w.from) w.choices)) (sym w.is) (history-reached S w.from w.choices)

    -- at the end each node has made all its moves
    pub done-all : (p : ℕ) → IsDoneAt S (slice_get c.nodes p) → made_in S (start w.from) w.choices p ≡ all_moves w.run.phases w.run.last p
    done-all p done =
        let r =
        prefix-rest (made_in S (start w.from) w.choices p) (all_moves w.run.phases w.run.last p)
        (confluence S w.from w.run c (made_in S (start w.from) w.choices) history-is p) in
        go (slice_get w.from p) (history-is.now p) (all_moves w.run.phases w.run.last p)
        (run-made S w.run.phases w.run.number w.run.last (slice_get w.from) w.run.run p) (made_in S (start w.from) w.choices p) r.0 r.1 refl
      where
        go : (o : Option N) → slice_get c.nodes p ≡ after_at S o (made_in S (start w.from) w.choices p) → (all : List (Move M)) → AreMovesAt S o all
            → (h rest : List (Move M)) → h ++ rest ≡ all → h ≡ made_in S (start w.from) w.choices p → h ≡ all
        go o now all made h [] e same = sym (append-nil h) ∙ e
        go None now all made h (x ∷ rest) e same =
            let l : length (h ++ (x ∷ rest)) ≡ 0 = ap length (e ∙ made) in
            absurd (omega (arith, simp length-append at l))
        go (Some b) now all made h (x ∷ rest) e same =
            let made2 : AreMovesOf S b (h ++ (x ∷ rest)) = rw e made in
            let node : slice_get c.nodes p ≡ Some (after_all S b h) = rw same now in
            let d : S.act (after_all S b h) ≡ Done = rw node at done in
            absurd (no-move-done S (after_all S b h) x (moves-back S b h (x ∷ rest) made2).0 d)

    -- where no moves are left, all are Done
    pub none-left : moves_left S w ≡ 0 → (p : ℕ) → IsDoneAt S (slice_get c.nodes p)
    none-left e p =
        let prefix = confluence S w.from w.run c (made_in S (start w.from) w.choices) history-is p in
        let r = prefix-rest (made_in S (start w.from) w.choices p) (all_moves w.run.phases w.run.last p) prefix in
        let all : made_in S (start w.from) w.choices p ≡ all_moves w.run.phases w.run.last p = elim (cases_lt p (length w.from)) [
          | inl lt ↦
              (let z : length (all_moves w.run.phases w.run.last p) - length (made_in S (start w.from) w.choices p) ≡ 0 =
              total-zero (length w.from) (λ q. length (all_moves w.run.phases w.run.last q) - length (made_in S (start w.from) w.choices q)) e p lt in
              let l : length (made_in S (start w.from) w.choices p) + length r.0 ≡ length (all_moves w.run.phases w.run.last p) =
              sym (length-append (made_in S (start w.from) w.choices p) r.0) ∙ ap length r.1 in
              sym (append-nil (made_in S (start w.from) w.choices p)) ∙ ap (λ (t : List (Move M)). made_in S (start w.from) w.choices p ++ t) (sym (empty r.0 (omega arith))) ∙ r.1)
          | inr ge ↦ past (slice_get w.from p) (slice_get_past w.from p ge) (history-is.made p) (run-made S w.run.phases w.run.number w.run.last (slice_get w.from) w.run.run p)
        ] in
        rw (history-is.now p, all) (run-done S w.run.phases w.run.number w.run.last (slice_get w.from) w.run.run p)
      where
        empty : (t : List (Move M)) → length t ≡ 0 → t ≡ []
        empty [] h = refl
        empty (y ∷ t) h = cc

        past : (o : Option N) → o ≡ None → AreMovesAt S o (made_in S (start w.from) w.choices p)
            → AreMovesAt S o (all_moves w.run.phases w.run.last p) → made_in S (start w.from) w.choices p ≡ all_moves w.run.phases w.run.last p
        past None n h k = h ∙ sym k
        past (Some a) n h k = cc

    pub done-left : ((p : ℕ) → IsDoneAt S (slice_get c.nodes p)) → moves_left S w ≡ 0
    done-left done =
        none-total (length w.from) (λ p. length (all_moves w.run.phases w.run.last p) - length (made_in S (start w.from) w.choices p))
        (λ p. let e = ap length (done-all p (done p)) in omega arith)

    -- a step takes one away
    pub step-left : (p : ℕ) → IsEnabled S c p → moves_left S w ≡ suc (moves_left S (reached-step c p w))
    step-left p enabled =
        let x = some-is (core_move S c p) enabled in
        let v : IsReached S (core_step S c p) = reached-step c p w in
        let next : IsHistory S w.from (core_step S c p) (λ q. made_in S (start w.from) w.choices q ++ moves_in S p q (core_move S c p)) =
        history-step S w.from c (made_in S (start w.from) w.choices) p history-is in
        let after : (q : ℕ) → made_in S (start w.from) (w.choices ++ (p ∷ [])) q ≡ made_in S (start w.from) w.choices q ++ moves_in S p q (core_move S c p) = λ q.
        made-append w.choices (start w.from) p q ∙ ap (λ (d : CoreState N M). made_in S (start w.from) w.choices q ++ moves_in S p q (core_move S d p)) (sym w.is) in
        let can = can-move S c p x.0 x.1 in
        let lt : p < length w.from = from-some (slice_get w.from p) refl (sym can.is ∙ history-is.now p) in
        let prefix : IsPrefix (made_in S (start w.from) w.choices p ++ moves_in S p p (core_move S c p)) (all_moves w.run.phases w.run.last p) =
        confluence S w.from w.run (core_step S c p) (λ q. made_in S (start w.from) w.choices q ++ moves_in S p q (core_move S c p)) next p in
        let one : length (made_in S (start w.from) (w.choices ++ (p ∷ [])) p) ≡ length (made_in S (start w.from) w.choices p) + 1 =
        rw (after p, x.1, eq-eqb p p refl) (length-append (made_in S (start w.from) w.choices p) (x.0 ∷ [])) in
        let fits : length (made_in S (start w.from) (w.choices ++ (p ∷ [])) p) ≤ length (all_moves w.run.phases w.run.last p) =
        rw (after p)
        (prefix-length (made_in S (start w.from) w.choices p ++ moves_in S p p (core_move S c p)) (all_moves w.run.phases w.run.last p) prefix) in
        total-one (length w.from)
        (λ q. length (all_moves w.run.phases w.run.last q) - length (made_in S (start w.from) w.choices q))
        (λ q. length (all_moves w.run.phases w.run.last q) - length (made_in S (start w.from) (w.choices ++ (p ∷ [])) q))
        p lt (omega arith)
        (λ q d. rw (after q, x.1, ne_eqb p q d, append-nil) refl)
      where
        from-some : {a : N} → (o : Option N) → slice_get w.from p ≡ o → Some a ≡ after_at S o (made_in S (start w.from) w.choices p) → p < length w.from
        from-some None e h = cc
        from-some (Some b) e h = slice_get_within w.from p b e

        prefix-length : (xs ys : List (Move M)) → IsPrefix xs ys → length xs ≤ length ys
        prefix-length [] ys h = omega arith
        prefix-length (y ∷ xs) [] h = absurd h
        prefix-length (y ∷ xs) (z ∷ ys) h = let l = prefix-length xs ys h.1 in omega arith

  -- however the core was reached
  pub left-same : (n : ℕ) (c : CoreState N M) (w v : IsReached S c) → moves_left S w ≡ n → moves_left S v ≡ n
  left-same zero c w v e = done-left c v (none-left c w e)
  left-same (suc n) c w v e =
      elim (never_stuck S w.from w.run c (made_in S (start w.from) w.choices) (history-is c w)) [
        | inl done ↦ (let z : moves_left S w ≡ 0 = done-left c w done in absurd (omega arith))
        | inr some ↦
            (let a : moves_left S w ≡ suc (moves_left S (reached-step c some.0 w)) = step-left c w some.0 some.1 in
            let b : moves_left S v ≡ suc (moves_left S (reached-step c some.0 v)) = step-left c v some.0 some.1 in
            let ih : moves_left S (reached-step c some.0 v) ≡ n = left-same n (core_step S c some.0) (reached-step c some.0 w) (reached-step c some.0 v) (omega arith) in
            omega arith)
      ]
