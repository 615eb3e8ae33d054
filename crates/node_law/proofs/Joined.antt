-- A segment of a lockstep run followed by another segment, or by a lockstep run.
use Rattle.std.proofs.Common.{◌≡◌, ℕ, List, [], ◌∷◌, ◌++◌, Option, Some, None, refl, sym, ◌∙◌, ap, subst, append_assoc, append-nil}
use Rattle.std.proofs.Math.Path.{fun_ext}
use Rattle.node_law.specs.NodeSteps.{NodeSteps, Move, Worked, Sent, Taken, node_after, after_all, after_at, IsDoneAt, sent}
use Rattle.node_law.specs.Phases.{PhaseShare, moves, AreLocal, IsFront, next_number, TurnsNumber, KeepsNumber, IsShare, IsShareAt, IsPhase, IsEndAt, IsLockstep, StaysAt, IsBetween, LeadsTo, number_after, begun_by, joined_phases, joined_last}
use Rattle.node_law.proofs.Prefixes.{sent-append, moves-append, after_all-append}
use Rattle.node_law.proofs.LawOfPrefixes.{local-sent}
use Rattle.node_law.proofs.NextMove.{local-awaited, awaited-append}

module _ {M : Type 0} where
  local-append : (xs ys : List (Move M)) → AreLocal xs → AreLocal ys → AreLocal (xs ++ ys)
  local-append [] ys h k = k
  local-append (Worked ∷ xs) ys h k = local-append xs ys h k
  local-append (Sent q m ∷ xs) ys h k = absurd h
  local-append (Taken q m ∷ xs) ys h k = absurd h

  local-front : (xs ys : List (Move M)) → AreLocal xs → IsFront ys → IsFront (xs ++ ys)
  local-front [] ys h k = k
  local-front (Worked ∷ xs) ys h k = local-front xs ys h k
  local-front (Sent q m ∷ xs) ys h k = absurd h
  local-front (Taken q m ∷ xs) ys h k = absurd h

module _ {N M : Type 0} (S : NodeSteps N M) where
  stays-first : (n : ℕ) (a : N) (xs : List (Move M)) → StaysAt S n a xs → S.phase a ≡ n
  stays-first n a [] h = h
  stays-first n a (x ∷ xs) h = h.0

  stays-append : (n : ℕ) (a : N) (xs ys : List (Move M)) → StaysAt S n a xs → StaysAt S n (after_all S a xs) ys → StaysAt S n a (xs ++ ys)
  stays-append n a [] ys h k = k
  stays-append n a (x ∷ xs) ys h k = (h.0, stays-append n (node_after S a x) xs ys h.1 k)

  turns-append : (n : ℕ) (a : N) (xs ys : List (Move M)) → StaysAt S n a xs → TurnsNumber S n (after_all S a xs) ys → TurnsNumber S n a (xs ++ ys)
  turns-append n a [] ys h k = k
  turns-append n a (x ∷ xs) ys h k = (h.0, turns-append n (node_after S a x) xs ys h.1 k)

  keeps-append : (n : ℕ) (a : N) (xs ys : List (Move M)) → StaysAt S n a xs → KeepsNumber S (after_all S a xs) ys → KeepsNumber S a (xs ++ ys)
  keeps-append n a [] ys h k = k
  keeps-append n a (x ∷ xs) ys h k = (stays-first n (node_after S a x) xs h.1 ∙ sym h.0, keeps-append n (node_after S a x) xs ys h.1 k)

  -- a share of a phase, with the local steps before it
  share-after : (n : ℕ) (o new : Option N) (xs : List (Move M)) (share : PhaseShare M) → IsBetween S n o xs new → IsShareAt S n new share
      → IsShareAt S n o (record { front = xs ++ share.front; back = share.back })
  share-after n None new xs share h k = rw h.0 (rw h.1 at k)
  share-after n (Some a) new xs share h k =
      let e : (xs ++ share.front) ++ share.back ≡ xs ++ moves share = append_assoc xs share.front share.back in
      let here : IsShare S n (after_all S a xs) share = rw h.3 at k in
      record {
        made = rw e (moves-append S a xs (moves share) h.0 here.made);
        front = local-front xs share.front h.1 here.front;
        back = here.back;
        number = rw e (turns-append n a xs (moves share) h.2 here.number);
        awaited = rw e (awaited-append S a xs (moves share) (local-awaited S a xs h.1) here.awaited);
      }

  between-sent : (n : ℕ) (o new : Option N) (xs : List (Move M)) (q : ℕ) → IsBetween S n o xs new → sent q xs ≡ []
  between-sent n None new xs q h = rw h.0 refl
  between-sent n (Some a) new xs q h = local-sent q xs h.1

  between-begun : (n : ℕ) (o new : Option N) (xs : List (Move M)) (b : N) → IsBetween S n o xs new → new ≡ Some b → (a : N) × (o ≡ Some a) × (S.phase a ≡ n)
  between-begun n None new xs b h e = cc
  between-begun n (Some a) new xs b h e = (a, refl, stays-first n a xs h.2)

  after-between : (n : ℕ) (o new : Option N) (xs ys : List (Move M)) → IsBetween S n o xs new → after_at S o (xs ++ ys) ≡ after_at S new ys
  after-between n None new xs ys h = rw h.1 refl
  after-between n (Some a) new xs ys h = rw h.3 (ap Some (after_all-append S a xs ys))

  between-append : (n : ℕ) (o middle new : Option N) (xs ys : List (Move M)) → IsBetween S n o xs middle → IsBetween S n middle ys new → IsBetween S n o (xs ++ ys) new
  between-append n None middle new xs ys h k = let e = rw h.1 at k in (rw (h.0, e.0) refl, e.1)
  between-append n (Some a) middle new xs ys h k =
      let e = rw h.3 at k in (
        moves-append S a xs ys h.0 e.0,
        local-append xs ys h.1 e.1,
        stays-append n a xs ys h.2 e.2,
        e.3 ∙ ap Some (sym (after_all-append S a xs ys)),
      )

  end-done : (n : ℕ) (o new : Option N) (xs : List (Move M)) → IsBetween S n o xs new → IsDoneAt S new → IsEndAt S o xs
  end-done n None new xs h d = h.0
  end-done n (Some a) new xs h d = (h.0, h.1, rw append-nil at (keeps-append n a xs [] h.2 tt), rw h.3 at d)

  -- a phase that local steps open
  module _ (n : ℕ) (ns middle : ℕ → Option N) (between : ℕ → List (Move M)) (h : (p : ℕ) → IsBetween S n (ns p) (between p) (middle p)) (shares : ℕ → PhaseShare M) where
    phase-after : IsPhase S n middle shares → IsPhase S n ns (begun_by between shares)
    phase-after k =
        let b = between-begun n (ns k.begun.0) (middle k.begun.0) (between k.begun.0) k.begun.1 (h k.begun.0) k.begun.2 in
        record {
          begun = (k.begun.0, b.0, b.1, b.2);
          each = λ p. share-after n (ns p) (middle p) (between p) (shares p) (h p) (k.each p);
          letters = λ p q. rw (sent-append q (between p) (shares p).front, between-sent n (ns p) (middle p) (between p) q (h p)) (k.letters p q);
          to_others = λ p. rw (sent-append p (between p) (shares p).front, between-sent n (ns p) (middle p) (between p) p (h p)) (k.to_others p);
        }

    nodes-after : (let old : ℕ → Option N = λ p. after_at S (middle p) (moves (shares p)) in
        let new : ℕ → Option N = λ p. after_at S (ns p) (moves (begun_by between shares p)) in old ≡ new)
    nodes-after = fun_ext (λ p. sym (rw (append_assoc (between p) (shares p).front (shares p).back) (after-between n (ns p) (middle p) (between p) (moves (shares p)) (h p))))

  pub leads-joined : (first : List (ℕ → PhaseShare M)) (n : ℕ) (ns middle new : ℕ → Option N) (second : List (ℕ → PhaseShare M))
      (between last : ℕ → List (Move M)) → LeadsTo S n ns first between middle → LeadsTo S (number_after n first) middle second last new
      → LeadsTo S n ns (joined_phases first between second) (joined_last between second last) new
  leads-joined [] n ns middle new [] between last h k = λ p. between-append n (ns p) (middle p) (new p) (between p) (last p) (h p) (k p)
  leads-joined [] n ns middle new (shares ∷ rest) between last h k = (
    phase-after n ns middle between h shares k.0,
    subst (λ (K : ℕ → Option N). LeadsTo S (next_number n) K rest last new) (nodes-after n ns middle between h shares) k.1,
  )
  leads-joined (shares ∷ first) n ns middle new second between last h k =
      (h.0, leads-joined first (next_number n) (λ p. after_at S (ns p) (moves (shares p))) middle new second between last h.1 k)

  -- a segment that leads to nodes that are all Done
  pub lockstep-ended : (phases : List (ℕ → PhaseShare M)) (n : ℕ) (ns new : ℕ → Option N) (last : ℕ → List (Move M)) → LeadsTo S n ns phases last new
      → ((p : ℕ) → IsDoneAt S (new p)) → IsLockstep S n ns phases last
  lockstep-ended [] n ns new last h d = λ p. end-done n (ns p) (new p) (last p) (h p) (d p)
  lockstep-ended (shares ∷ phases) n ns new last h d =
      (h.0, lockstep-ended phases (next_number n) (λ p. after_at S (ns p) (moves (shares p))) new last h.1 d)
