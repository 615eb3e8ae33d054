-- A phase that is under way, and the local steps in it.
use Rattle.std.proofs.Common.{◌≡◌, ℕ, ◌+◌, ◌≢◌, inl, inr, List, [], ◌∷◌, ◌++◌, Option, Some, None, refl, sym, ◌∙◌, ap, subst, append-nil}
use Rattle.std.specs.List.{slice_get}
use Rattle.std.proofs.Math.Path.{fun_ext}
use Rattle.std.proofs.Common.{◌==◌, if◌then◌else◌, ◌⊎◌, zero, suc}
use Rattle.node_law.specs.declared.act.Act.TheVariants.{Local, Done}
use Rattle.node_law.specs.NodeSteps.{NodeSteps, Move, Worked, Sent, Taken, after_all, after_at, sent, taken}
use Rattle.node_law.specs.Phases.{PhaseShare, moves, AreSends, AreTakes, next_number, TurnsNumber, IsShare, IsShareAt, IsPhase, IsEndAt, IsLockstep, Lockstep, all_moves}
use Rattle.std.proofs.lemmas.Bool.Decides.{eqb_tells}
use Rattle.node_law.specs.NextPhase.{UnderWay, IsNextPhase}
use Rattle.node_law.proofs.PhaseAlone.{number-turns, only_phase, inside, outside, phase-alone}

-- there is no local step among the moves
abbrev pub HasNoWork : {M : Type 0} → List (Move M) → Type 0
HasNoWork [] = Unit {0}
HasNoWork (Worked ∷ xs) = ⊥
HasNoWork (Sent q m ∷ xs) = HasNoWork xs
HasNoWork (Taken q m ∷ xs) = HasNoWork xs

module _ {N M : Type 0} (S : NodeSteps N M) where
  -- a node whose act is Local in the phase has a local step in front
  first-local : (n : ℕ) (a : N) (front back : List (Move M)) → IsShare S n a (record { front = front; back = back }) → S.act a ≡ Local → S.phase a ≡ n
      → (f : List (Move M)) × (front ≡ Worked ∷ f)
  first-local n a [] [] h act e = absurd (number-turns n (sym e ∙ h.number))
  first-local n a [] (Worked ∷ back) h act e = absurd h.back
  first-local n a [] (Sent q m ∷ back) h act e = absurd h.back
  first-local n a [] (Taken q m ∷ back) h act e = let k = h.made.0 in cc
  first-local n a (Worked ∷ f) back h act e = (f, refl)
  first-local n a (Sent q m ∷ f) back h act e = let k = h.made.0.0 in cc
  first-local n a (Taken q m ∷ f) back h act e = absurd h.front

  same-rest : (n : ℕ) (phases : List (ℕ → PhaseShare M)) (last : ℕ → List (Move M)) (F G : ℕ → Option N) → ((p : ℕ) → F p ≡ G p)
      → IsLockstep S n F phases last → IsLockstep S n G phases last
  same-rest n phases last F G e h = subst (λ (K : ℕ → Option N). IsLockstep S n K phases last) (fun_ext e) h

  -- a local step in the phase leaves the phase under way, with the same rest
  pub local-under_way : (n : ℕ) (ns ms : ℕ → Option N) (p : ℕ) (a : N) → ns p ≡ Some a → S.act a ≡ Local → S.phase a ≡ n
      → ms p ≡ Some (S.after_local a) → ((q : ℕ) → p ≢ q → ms q ≡ ns q) → UnderWay S n ns → UnderWay S n ms
  local-under_way n ns ms p a is act e new same u =
      let here : IsShare S n a (u.shares p) = rw is at (u.each p) in
      let f = first-local n a (u.shares p).front (u.shares p).back here act e in
      let P : PhaseShare M = record { front = f.0; back = (u.shares p).back } in
      let whole : IsShare S n a (record { front = Worked ∷ f.0; back = (u.shares p).back }) =
      subst (λ (l : List (Move M)). IsShare S n a (record { front = l; back = (u.shares p).back })) f.1 here in
      let left : IsShare S n (S.after_local a) P = record { made = whole.made.1; front = whole.front; back = whole.back; number = whole.number.1; awaited = whole.awaited } in
      let new_shares : ℕ → PhaseShare M = λ q. if p == q then P else u.shares q in
      let fronts : (s t : ℕ) → sent t (new_shares s).front ≡ sent t (u.shares s).front = λ s t. elim (eqb_tells p s) [
        | inl h ↦ rw (h.0, ← h.1) (sym (ap (sent t) f.1))
        | inr h ↦ rw h.0 refl
      ] in
      let backs : (s t : ℕ) → taken s (new_shares t).back ≡ taken s (u.shares t).back = λ s t. elim (eqb_tells p t) [
        | inl h ↦ rw (h.0, ← h.1) refl
        | inr h ↦ rw h.0 refl
      ] in
      record {
        shares = new_shares;
        each = λ q. elim (eqb_tells p q) [
          | inl h ↦ rw (h.0, ← h.1, new) left
          | inr h ↦ rw (h.0, same q h.1) (u.each q)
        ];
        letters = λ s t. fronts s t ∙ u.letters s t ∙ sym (backs s t);
        to_others = λ s. fronts s s ∙ u.to_others s;
        phases = u.phases;
        last = u.last;
        rest = same-rest (next_number n) u.phases u.last (λ q. after_at S (ns q) (moves (u.shares q))) (λ q. after_at S (ms q) (moves (new_shares q)))
            (λ q. elim (eqb_tells p q) [
              | inl h ↦ rw (h.0, ← h.1, new, is) (ap (λ (l : List (Move M)). let o : Option N = Some (after_all S a (l ++ (u.shares p).back)) in o) f.1)
              | inr h ↦ rw (h.0, same q h.1) refl
            ]) u.rest;
      }

  -- where no node has the number any more, the phase is over
  pub over-phased : (n : ℕ) (ns : ℕ → Option N) → ((p : ℕ) (a : N) → ns p ≡ Some a → S.phase a ≢ n) → UnderWay S n ns → Lockstep S ns
  over-phased n ns none u = record {
    number = next_number n;
    phases = u.phases;
    last = u.last;
    run = same-rest (next_number n) u.phases u.last (λ p. after_at S (ns p) (moves (u.shares p))) ns (λ p. still (ns p) (u.shares p) (none p) (u.each p)) u.rest;
  }
    where
      idle : (a : N) (xs : List (Move M)) → S.phase a ≢ n → TurnsNumber S n a xs → xs ≡ []
      idle a [] d t = refl
      idle a (x ∷ xs) d t = absurd (d t.0)

      still : (o : Option N) (share : PhaseShare M) → ((a : N) → o ≡ Some a → S.phase a ≢ n) → IsShareAt S n o share → after_at S o (moves share) ≡ o
      still None share d h = refl
      still (Some a) share d h = rw (idle a (moves share) (d a refl) h.number) refl

  -- where one has, it is a phase, and what is left is a lockstep run
  pub begun-phased : (n : ℕ) (ns : ℕ → Option N) (p : ℕ) (a : N) → ns p ≡ Some a → S.phase a ≡ n → UnderWay S n ns → Lockstep S ns
  begun-phased n ns p a is e u = record {
    number = n;
    phases = u.shares ∷ u.phases;
    last = u.last;
    run = (record { begun = (p, a, is, e); each = u.each; letters = u.letters; to_others = u.to_others }, u.rest);
  }

  end-local : (a : N) (xs : List (Move M)) → IsEndAt S (Some a) xs → S.act a ≡ Local → (ys : List (Move M)) × IsEndAt S (Some (S.after_local a)) ys
  end-local a [] h act = let d = h.3 in cc
  end-local a (Worked ∷ xs) h act = (xs, (h.0.1, h.1, h.2.1, h.3))
  end-local a (Sent q m ∷ xs) h act = absurd h.1
  end-local a (Taken q m ∷ xs) h act = absurd h.1

  -- a local step in the phase keeps that it is the next one
  pub local-next : (n : ℕ) (ns ms : ℕ → Option N) (p : ℕ) (a : N) → ns p ≡ Some a → S.act a ≡ Local → S.phase a ≡ n → ms p ≡ Some (S.after_local a)
      → ((q : ℕ) → p ≢ q → ms q ≡ ns q) → IsNextPhase S n ns → IsNextPhase S n ms
  local-next n ns ms p a is act e new same (inl u) = inl (local-under_way n ns ms p a is act e new same u)
  local-next n ns ms p a is act e new same (inr end) =
      let here = end-local a (end.0 p) (rw is at (end.1 p)) act in
      inr (
        (λ q. if p == q then here.0 else end.0 q),
        (λ q. elim (eqb_tells p q) [
          | inl h ↦ rw (h.0, ← h.1, new) here.1
          | inr h ↦ rw (h.0, same q h.1) (end.1 q)
        ]),
      )

  -- a node has the number, or none has
  any-at : (n : ℕ) (ns : List N) → ((p : ℕ) × (a : N) × (slice_get ns p ≡ Some a) × (S.phase a ≡ n)) ⊎ ((p : ℕ) (a : N) → slice_get ns p ≡ Some a → S.phase a ≢ n)
  any-at n [] = inr (λ p a is. cc)
  any-at n (b ∷ ns) =
      elim (eqb_tells (S.phase b) n) [
        | inl h ↦ inl (0, b, refl, h.1)
        | inr h ↦ elim (any-at n ns) [
          | inl some ↦ inl (suc some.0, some.1, some.2, some.3)
          | inr none ↦ inr (go h.1 none)
        ]
      ]
    where
      go : S.phase b ≢ n → ((p : ℕ) (a : N) → slice_get ns p ≡ Some a → S.phase a ≢ n) → (p : ℕ) (a : N) → slice_get (b ∷ ns) p ≡ Some a → S.phase a ≢ n
      go d none zero a is = let e : b ≡ a = cc in rw e at d
      go d none (suc p) a is = none p a is

  pub next-phased : (n : ℕ) (ns : List N) → IsNextPhase S n (slice_get ns) → Lockstep S (slice_get ns)
  next-phased n ns (inl u) =
      elim (any-at n ns) [
        | inl some ↦ begun-phased n (slice_get ns) some.0 some.1 some.2 some.3 u
        | inr none ↦ over-phased n (slice_get ns) none u
      ]
  next-phased n ns (inr end) = record { number = n; phases = []; last = end.0; run = end.1 }

  -- what the nodes do in the phase, where no local step of it is left: a lockstep run of the phase alone, without
  -- local steps, after which the nodes are phased
  pub record Passes (n : ℕ) (ns : ℕ → Option N) : Type 0 where
    pub alone : Lockstep (only_phase S n) ns
    pub letters_only : (p : ℕ) → HasNoWork (all_moves alone.phases alone.last p)
    pub rest : Lockstep S (λ p. after_at S (ns p) (all_moves alone.phases alone.last p))

  -- a node whose number is another, or that is Done, makes no move in the phase alone
  still : (n : ℕ) (ns : ℕ → Option N) → ((p : ℕ) (a : N) → ns p ≡ Some a → S.phase a ≡ n → S.act a ≡ Done) → Lockstep S ns → Passes n ns
  still n ns done run = record {
    alone = record { number = n; phases = []; last = λ p. []; run = λ p. end (ns p) (done p) };
    letters_only = λ p. tt;
    rest = subst (λ (K : ℕ → Option N). Lockstep S K) (fun_ext (λ p. none (ns p))) run;
  }
    where
      none : (o : Option N) → o ≡ after_at S o []
      none None = refl
      none (Some a) = refl

      end : (o : Option N) → ((a : N) → o ≡ Some a → S.phase a ≡ n → S.act a ≡ Done) → IsEndAt (only_phase S n) o []
      end None d = refl
      end (Some a) d = (
        tt,
        tt,
        tt,
        elim (eqb_tells (S.phase a) n) [
          | inl h ↦ inside S n a h.1 ∙ d a refl h.1
          | inr h ↦ outside S n a h.1
        ],
      )

  takes-no-work : (least : ℕ) (xs : List (Move M)) → AreTakes least xs → HasNoWork xs
  takes-no-work least [] h = tt
  takes-no-work least (Worked ∷ xs) h = absurd h
  takes-no-work least (Sent q m ∷ xs) h = absurd h
  takes-no-work least (Taken q m ∷ xs) h = takes-no-work (q + 1) xs h.1

  sends-no-work : (least : ℕ) (xs ys : List (Move M)) → AreSends least xs → AreTakes 0 ys → HasNoWork (xs ++ ys)
  sends-no-work least [] ys h k = takes-no-work 0 ys k
  sends-no-work least (Worked ∷ xs) ys h k = absurd h
  sends-no-work least (Sent q m ∷ xs) ys h k = sends-no-work (q + 1) xs ys h.1 k
  sends-no-work least (Taken q m ∷ xs) ys h k = absurd h

  share-no-work : (n : ℕ) (o : Option N) (front back : List (Move M)) → IsShareAt S n o (record { front = front; back = back })
      → ((a : N) → o ≡ Some a → S.phase a ≡ n → S.act a ≢ Local) → HasNoWork (front ++ back)
  share-no-work n None front back h d = rw h tt
  share-no-work n (Some a) [] back h d = takes-no-work 0 back h.back
  share-no-work n (Some a) (Worked ∷ front) back h d = absurd (d a refl h.number.0 h.made.0)
  share-no-work n (Some a) (Sent q m ∷ front) back h d = sends-no-work (q + 1) front back h.front.1 h.back
  share-no-work n (Some a) (Taken q m ∷ front) back h d = absurd h.front

  end-idle : (n : ℕ) (a : N) (xs : List (Move M)) → IsEndAt S (Some a) xs → S.act a ≢ Local → S.act a ≡ Done
  end-idle n a [] h d = h.3
  end-idle n a (Worked ∷ xs) h d = absurd (d h.0.0)
  end-idle n a (Sent q m ∷ xs) h d = absurd h.1
  end-idle n a (Taken q m ∷ xs) h d = absurd h.1

  pub next-passes : (n : ℕ) (ns : List N) → ((p : ℕ) (a : N) → slice_get ns p ≡ Some a → S.phase a ≡ n → S.act a ≢ Local) → IsNextPhase S n (slice_get ns) → Passes n (slice_get ns)
  unfolding phase-alone
  next-passes n ns d (inl u) =
      elim (any-at n ns) [
        | inl some ↦
            (let phase : IsPhase S n (slice_get ns) u.shares = record { begun = some; each = u.each; letters = u.letters; to_others = u.to_others } in
            record {
              alone = phase-alone S n (slice_get ns) u.shares phase;
              letters_only = λ p. rw append-nil (share-no-work n (slice_get ns p) (u.shares p).front (u.shares p).back (u.each p) (d p));
              rest = record {
                number = next_number n;
                phases = u.phases;
                last = u.last;
                run =
                    same-rest (next_number n) u.phases u.last (λ p. after_at S (slice_get ns p) (moves (u.shares p)))
                    (λ p. after_at S (slice_get ns p) (moves (u.shares p) ++ [])) (λ p. rw append-nil refl) u.rest;
              };
            })
        | inr none ↦ still n (slice_get ns) (λ p a is e. absurd (none p a is e)) (over-phased n (slice_get ns) none u)
      ]
  next-passes n ns d (inr end) =
      still n (slice_get ns) (λ p a is e. end-idle n a (end.0 p) (rw is at (end.1 p)) (d p a is e)) (record { number = n; phases = []; last = end.0; run = end.1 })
