-- One phase alone, as a whole lockstep run of steps under which a node of another number is Done.
use Rattle.std.proofs.Common.{◌≡◌, ℕ, ◌+◌, ◌≢◌, List, [], ◌∷◌, length, Option, Some, None, refl, sym, ◌∙◌, ap, arith, length-append}
use Rattle.std.specs.List.{slice_get}
use Rattle.std.proofs.Common.{◌==◌, if◌then◌else◌}
use Rattle.std.proofs.lemmas.Bool.{eq-eqb, ne_eqb}
use Rattle.node_law.specs.declared.act.Act.TheVariants.{Done}
use Rattle.node_law.specs.NodeSteps.{NodeSteps, Move, Worked, Sent, Taken, node_after, IsMoveOf, after_all, AreMovesOf, after_at, sent, taken}
use Rattle.node_law.specs.Phases.{PhaseShare, moves, next_number, TurnsNumber, AreAwaited, IsShareAt, IsPhase, IsEndAt, Lockstep, all_moves}
use Rattle.node_law.proofs.NextMove.{run-letters}
use Rattle.node_law.specs.Cores.{CoreState, start, core_run, core_move, move_by, made_in}
use Rattle.node_law.specs.Reached.{IsReached}
use Rattle.node_law.proofs.MovesLeft.{history-is, done-all}
use Rattle.node_law.specs.NodeSteps.{IsDoneAt}

-- a number is not the next one, also where the count wraps
pub number-turns : (n : ℕ) → n ≢ next_number n
number-turns n e = omega arith

module _ {N M : Type 0} (S : NodeSteps N M) (n : ℕ) where
  -- the steps of the phase n alone: a node that has another number is Done
  abbrev pub only_phase : NodeSteps N M
  only_phase = record S { act = λ a. if S.phase a == n then S.act a else Done }

  pub inside : (a : N) → S.phase a ≡ n → only_phase.act a ≡ S.act a
  inside a e = rw (eq-eqb (S.phase a) n e) refl

  pub outside : (a : N) → S.phase a ≢ n → only_phase.act a ≡ Done
  outside a d = rw (ne_eqb (S.phase a) n d) refl

  move-inside : (a : N) (x : Move M) → S.phase a ≡ n → IsMoveOf S a x → IsMoveOf only_phase a x
  move-inside a Worked e h = inside a e ∙ h
  move-inside a (Sent q m) e h = (inside a e ∙ h.0, h.1)
  move-inside a (Taken q m) e h = inside a e ∙ h

  pub after-same : (a : N) (x : Move M) → node_after only_phase a x ≡ node_after S a x
  after-same a Worked = refl
  after-same a (Sent q m) = refl
  after-same a (Taken q m) = refl

  moves-inside : (a : N) (xs : List (Move M)) → AreMovesOf S a xs → TurnsNumber S n a xs → AreMovesOf only_phase a xs
  moves-inside a [] h t = tt
  moves-inside a (x ∷ xs) h t = (move-inside a x t.0 h.0, rw (after-same a x) (moves-inside (node_after S a x) xs h.1 t.1))

  all-same : (a : N) (xs : List (Move M)) → after_all only_phase a xs ≡ after_all S a xs
  all-same a [] = refl
  all-same a (x ∷ xs) = rw (after-same a x) (all-same (node_after S a x) xs)

  turns-same : (a : N) (xs : List (Move M)) → TurnsNumber S n a xs → TurnsNumber only_phase n a xs
  turns-same a [] t = t
  turns-same a (x ∷ xs) t = (t.0, rw (after-same a x) (turns-same (node_after S a x) xs t.1))

  awaited-same : (a : N) (xs : List (Move M)) → AreAwaited S a xs → AreAwaited only_phase a xs
  awaited-same a [] h = tt
  awaited-same a (Worked ∷ xs) h = awaited-same (S.after_local a) xs h
  awaited-same a (Sent q m ∷ xs) h = awaited-same (S.after_send a) xs h
  awaited-same a (Taken q m ∷ xs) h = (h.0, awaited-same (S.after_take m a) xs h.1)

  turned : (a : N) (xs : List (Move M)) → TurnsNumber S n a xs → S.phase (after_all S a xs) ≡ next_number n
  turned a [] t = t
  turned a (x ∷ xs) t = turned (node_after S a x) xs t.1

  pub share-inside : (o : Option N) (share : PhaseShare M) → IsShareAt S n o share → IsShareAt only_phase n o share
  share-inside None share h = h
  share-inside (Some a) share h = record {
    made = moves-inside a (moves share) h.made h.number;
    front = h.front;
    back = h.back;
    number = turns-same a (moves share) h.number;
    awaited = awaited-same a (moves share) h.awaited;
  }

  pub share-ends : (o : Option N) (share : PhaseShare M) → IsShareAt S n o share → IsEndAt only_phase (after_at only_phase o (moves share)) []
  share-ends None share h = refl
  share-ends (Some a) share h = (
    tt,
    tt,
    tt,
    outside (after_all only_phase a (moves share))
        (λ e. number-turns n (sym e ∙ ap S.phase (all-same a (moves share)) ∙ turned a (moves share) h.number)),
  )

  -- one phase alone
  unfoldable pub phase-alone : (ns : ℕ → Option N) (shares : ℕ → PhaseShare M) → IsPhase S n ns shares → Lockstep only_phase ns
  phase-alone ns shares h = record {
    number = n;
    phases = shares ∷ [];
    last = λ p. [];
    run = (
      record { begun = h.begun; each = λ p. share-inside (ns p) (shares p) (h.each p); letters = h.letters; to_others = h.to_others },
      λ p. share-ends (ns p) (shares p) (h.each p),
    );
  }

  after_at-same : (o : Option N) (xs : List (Move M)) → after_at only_phase o xs ≡ after_at S o xs
  after_at-same None xs = refl
  after_at-same (Some a) xs = ap Some (all-same a xs)

  -- where the phase alone is finished, whatever the order, each node has made its moves of it and no letter is left
  pub phase-passed : (ns : List N) (run : Lockstep only_phase (slice_get ns)) (choices : List ℕ) (c : CoreState N M)
      → c ≡ core_run only_phase (start ns) choices → ((p : ℕ) → IsDoneAt only_phase (slice_get c.nodes p))
      → ((p : ℕ) → slice_get c.nodes p ≡ after_at S (slice_get ns p) (all_moves run.phases run.last p)) × ((p q : ℕ) → c.queue p q ≡ [])
  phase-passed ns run choices c e done =
      let w : IsReached only_phase c = record { from = ns; run = run; choices = choices; is = e } in
      let history = history-is only_phase c w in
      let all : (p : ℕ) → made_in only_phase (start ns) choices p ≡ all_moves run.phases run.last p = λ p. done-all only_phase c w p (done p) in (
        λ p. history.now p ∙ ap (after_at only_phase (slice_get ns p)) (all p) ∙ after_at-same (slice_get ns p) (all_moves run.phases run.last p),
        λ p q.
            let m : sent q (made_in only_phase (start ns) choices p) ≡ taken p (made_in only_phase (start ns) choices q) =
            rw (all p, all q) (run-letters only_phase run.phases run.number run.last (slice_get ns) run.run p q) in
            empty (c.queue p q) (let l : length (taken p (made_in only_phase (start ns) choices q)) ≡ length
            (taken p (made_in only_phase (start ns) choices q)) + length (c.queue p q) =
            ap length (sym m ∙ history.letters p q) ∙ length-append (taken p (made_in only_phase (start ns) choices q)) (c.queue p q) in omega arith),
      )
    where
      empty : (l : List M) → length l ≡ 0 → l ≡ []
      empty [] k = refl
      empty (y ∷ l) k = cc

  -- a step of the phase alone is a core step of a node that is in it
  pub step-inside : (c : CoreState N M) (p : ℕ) (a : N) → slice_get c.nodes p ≡ Some a → S.phase a ≡ n → core_move only_phase c p ≡ core_move S c p
  step-inside c p a is e = rw is (ap (move_by S c.queue p a) (inside a e))

  pub step-outside : (c : CoreState N M) (p : ℕ) (a : N) → slice_get c.nodes p ≡ Some a → S.phase a ≢ n → core_move only_phase c p ≡ None
  step-outside c p a is d = rw (is, outside a d) refl
