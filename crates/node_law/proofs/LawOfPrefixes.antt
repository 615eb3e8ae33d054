-- The law of prefixes.
use Rattle.std.proofs.Common.{◌≡◌, ℕ, ◌+◌, List, [], ◌∷◌, ◌++◌, Option, Some, None, refl, sym, append_assoc, append-nil}
use Rattle.node_law.specs.NodeSteps.{NodeSteps, Move, Worked, Sent, Taken, AreMovesAt, after_at, IsDoneAt, sent, taken, IsPrefix}
use Rattle.node_law.specs.Phases.{PhaseShare, moves, AreLocal, AreSends, AreTakes, IsFront, next_number, IsShareAt, IsPhase, IsEndAt, IsLockstep, Lockstep, all_moves}
use Rattle.node_law.proofs.Prefixes.{AreComparable, comparable-swap, prefix-comparable, sent-append, taken-append, sent-comparable, taken-comparable, moves-comparable_at, append_at, after_at-append, front_at, done-begins_at}

module _ {M : Type 0} where
  pub sends-taken : (least p : ℕ) (xs : List (Move M)) → AreSends least xs → taken p xs ≡ []
  sends-taken least p [] h = refl
  sends-taken least p (Worked ∷ xs) h = absurd h
  sends-taken least p (Sent q m ∷ xs) h = sends-taken (q + 1) p xs h.1
  sends-taken least p (Taken q m ∷ xs) h = absurd h

  pub front-taken : (p : ℕ) (xs : List (Move M)) → IsFront xs → taken p xs ≡ []
  front-taken p [] h = refl
  front-taken p (Worked ∷ xs) h = front-taken p xs h
  front-taken p (Sent q m ∷ xs) h = sends-taken (q + 1) p xs h.1
  front-taken p (Taken q m ∷ xs) h = absurd h

  pub takes-sent : (least p : ℕ) (xs : List (Move M)) → AreTakes least xs → sent p xs ≡ []
  takes-sent least p [] h = refl
  takes-sent least p (Worked ∷ xs) h = absurd h
  takes-sent least p (Sent q m ∷ xs) h = absurd h
  takes-sent least p (Taken q m ∷ xs) h = takes-sent (q + 1) p xs h.1

  pub local-taken : (p : ℕ) (xs : List (Move M)) → AreLocal xs → taken p xs ≡ []
  local-taken p [] h = refl
  local-taken p (Worked ∷ xs) h = local-taken p xs h
  local-taken p (Sent q m ∷ xs) h = absurd h
  local-taken p (Taken q m ∷ xs) h = absurd h

  pub local-sent : (p : ℕ) (xs : List (Move M)) → AreLocal xs → sent p xs ≡ []
  local-sent p [] h = refl
  local-sent p (Worked ∷ xs) h = local-sent p xs h
  local-sent p (Sent q m ∷ xs) h = absurd h
  local-sent p (Taken q m ∷ xs) h = absurd h

module _ {N M : Type 0} (S : NodeSteps N M) where
  -- a node's share of a phase, also where there is no node: its moves, and what they send and take
  pub record ShareFacts (o : Option N) (share : PhaseShare M) : Type 0 where
    pub made : AreMovesAt S o (moves share)
    pub made_front : AreMovesAt S o share.front
    pub front_taken : (p : ℕ) → taken p share.front ≡ []
    pub back_sent : (p : ℕ) → sent p share.back ≡ []

  no_moves : (xs ys : List (Move M)) → xs ++ ys ≡ [] → (xs ≡ []) × (ys ≡ [])
  no_moves [] ys h = (refl, h)
  no_moves (x ∷ xs) ys h = cc

  pub share-facts : (n : ℕ) (o : Option N) (share : PhaseShare M) → IsShareAt S n o share → ShareFacts o share
  share-facts n None share h =
      let e = no_moves share.front share.back h in
      record {
        made = h;
        made_front = e.0;
        front_taken = λ p. rw e.0 refl;
        back_sent = λ p. rw e.1 refl;
      }
  share-facts n (Some a) share h = record {
    made = h.made;
    made_front = front_at S (Some a) share.front share.back h.made;
    front_taken = λ p. front-taken p share.front h.front;
    back_sent = λ p. takes-sent 0 p share.back h.back;
  }

  pub end-taken : (o : Option N) (xs : List (Move M)) (p : ℕ) → IsEndAt S o xs → taken p xs ≡ []
  end-taken None xs p h = rw h refl
  end-taken (Some a) xs p h = local-taken p xs h.1

  pub end-made : (o : Option N) (xs : List (Move M)) → IsEndAt S o xs → AreMovesAt S o xs
  end-made None xs h = h
  end-made (Some a) xs h = h.0

  pub end-done : (o : Option N) (xs : List (Move M)) → IsEndAt S o xs → IsDoneAt S (after_at S o xs)
  end-done None xs h = tt
  end-done (Some a) xs h = h.3

  -- moves so far, at a moment when each letter sent is taken
  pub record AllTaken (ns ms : ℕ → Option N) (X : ℕ → List (Move M)) : Type 0 where
    pub made : (p : ℕ) → AreMovesAt S (ns p) (X p)
    pub now : (p : ℕ) → ms p ≡ after_at S (ns p) (X p)
    pub letters : (p q : ℕ) → sent q (X p) ≡ taken p (X q)

  pub all_taken-next : (n : ℕ) (ns ms : ℕ → Option N) (X : ℕ → List (Move M)) (shares : ℕ → PhaseShare M) → AllTaken ns ms X → IsPhase S n ms shares
      → AllTaken ns (λ p. after_at S (ms p) (moves (shares p))) (λ p. X p ++ moves (shares p))
  all_taken-next n ns ms X shares e h =
      let f : (p : ℕ) → ShareFacts (ms p) (shares p) = λ p. share-facts n (ms p) (shares p) (h.each p) in
      record {
        made = λ p. append_at S (ns p) (X p) (moves (shares p)) (e.made p) (rw (e.now p) at (f p).made);
        now = λ p. rw (e.now p) (sym (after_at-append S (ns p) (X p) (moves (shares p))));
        letters = λ p q.
            simp (sent-append, taken-append, (f p).back_sent q, (f q).front_taken p, append-nil, e.letters p q, h.letters p q);
      }

  pub all_taken-start : (ns : ℕ → Option N) → AllTaken ns ns (λ p. [])
  all_taken-start ns = record { made = λ p. none_made (ns p); now = λ p. none_after (ns p); letters = λ p q. refl }
    where
      none_made : (o : Option N) → AreMovesAt S o []
      none_made None = refl
      none_made (Some a) = tt

      none_after : (o : Option N) → o ≡ after_at S o []
      none_after None = refl
      none_after (Some a) = refl

  module _ (ns : ℕ → Option N) (H : ℕ → List (Move M)) (made : (p : ℕ) → AreMovesAt S (ns p) (H p)) (taken-first : (p q : ℕ) → IsPrefix (taken p (H q)) (sent q (H p))) where
    pub law-from : (phases : List (ℕ → PhaseShare M)) (n : ℕ) (last : ℕ → List (Move M)) (ms : ℕ → Option N) (X : ℕ → List (Move M))
        → AllTaken ns ms X → ((p : ℕ) → AreComparable (H p) (X p)) → IsLockstep S n ms phases last → (p : ℕ)
        → IsPrefix (H p) (X p ++ all_moves phases last p)
    law-from [] n last ms X e comparable h p =
        let end : IsEndAt S (after_at S (ns p) (X p)) (last p) = rw (e.now p) at (h p) in
        let t : (q : ℕ) → taken q (X p) ≡ taken q (X p ++ last p) = λ q. simp (taken-append, end-taken (ms p) (last p) q (h p), append-nil) in
        let comparable_now : AreComparable (H p) (X p ++ last p) =
        moves-comparable_at S (ns p) (H p) (X p ++ last p) (made p) (append_at S (ns p) (X p) (last p) (e.made p) (end-made (after_at S (ns p) (X p)) (last p) end))
        (λ q. rw (← (t q)) (taken-comparable q (H p) (X p) (comparable p))) in
        done-begins_at S (ns p) (H p) (X p ++ last p) (made p) (rw (after_at-append S (ns p) (X p) (last p)) (end-done (after_at S (ns p) (X p)) (last p) end)) comparable_now
    law-from (shares ∷ phases) n last ms X e comparable h p =
        let Y : ℕ → List (Move M) = λ r. X r ++ moves (shares r) in
        let next : AllTaken ns (λ r. after_at S (ms r) (moves (shares r))) Y = all_taken-next n ns ms X shares e h.0 in
        let f : (r : ℕ) → ShareFacts (ms r) (shares r) = λ r. share-facts n (ms r) (shares r) (h.0.each r) in
        let front : (r : ℕ) → AreComparable (H r) (X r ++ (shares r).front) = λ r.
        moves-comparable_at S (ns r) (H r) (X r ++ (shares r).front) (made r) (append_at S (ns r) (X r) (shares r).front (e.made r) (rw (e.now r) at (f r).made_front))
        (λ q. rw (taken-append, (f r).front_taken q, append-nil) (taken-comparable q (H r) (X r) (comparable r))) in
        let whole : (r : ℕ) → AreComparable (H r) (Y r) = λ r.
        moves-comparable_at S (ns r) (H r) (Y r) (made r) (next.made r)
        (λ q. let t : taken q (Y r) ≡ sent r (X q ++ (shares q).front) = simp (sent-append, taken-append, (f r).front_taken q, e.letters q r, h.0.letters q r) in
        rw t (prefix-comparable (taken q (H r)) (sent r (H q)) (sent r (X q ++ (shares q).front)) (taken-first q r)
        (sent-comparable r (H q) (X q ++ (shares q).front) (front q)))) in
        rw (← append_assoc) (law-from phases (next_number n) last (λ r. after_at S (ms r) (moves (shares r))) Y next whole h.1 p)

-- the law of prefixes
pub law_of_prefixes : {N M : Type 0} (S : NodeSteps N M) (ns : ℕ → Option N) (run : Lockstep S ns) (H : ℕ → List (Move M))
    → ((p : ℕ) → AreMovesAt S (ns p) (H p)) → ((p q : ℕ) → IsPrefix (taken p (H q)) (sent q (H p))) → (p : ℕ)
    → IsPrefix (H p) (all_moves run.phases run.last p)
law_of_prefixes S ns run H made taken-first p =
    law-from S ns H made taken-first run.phases run.number run.last ns (λ q. []) (all_taken-start S ns) (λ q. comparable-swap [] (H q) tt) run.run p
