-- What holds of a core that is reached from nodes.
use Rattle.std.proofs.Common.{◌≡◌, ℕ, zero, suc, ◌<◌, ◌==◌, ◌&&◌, ◌≢◌, inl, inr, Bool, true, false, List, [], ◌∷◌, ◌++◌, length, Option, Some, None, if◌then◌else◌, nat_lt, refl, sym, ◌∙◌, ap, subst, append_assoc, append-nil}
use Rattle.std.proofs.lemmas.Bool.{ltb-true, eqb-true}
use Rattle.std.proofs.lemmas.Bool.Decides.{eqb_tells}
use Rattle.std.specs.List.{slice_get}
use Rattle.node_law.specs.declared.act.Act.{Act}
use Rattle.node_law.specs.declared.act.Act.TheVariants.{Local, Send, Take, Done}
use Rattle.node_law.specs.NodeSteps.{NodeSteps, Move, Worked, Sent, Taken, node_after, IsMoveOf, AreMovesAt, after_at, sent, taken}
use Rattle.node_law.specs.Cores.{capacity, CoreState, start, tail, queue_after, take_of, move_by, move_at, core_move, nodes_after, moved, core_step, core_run, moves_in, made_in}
use Rattle.node_law.proofs.Prefixes.{sent-append, taken-append, append_at, after_at-append}

-- there is room for the move: a send finds fewer letters than fit, and a take finds its letter in front
abbrev pub HasRoom : {M : Type 0} → (ℕ → ℕ → List M) → ℕ → Move M → Type 0
HasRoom queue p Worked = Unit {0}
HasRoom queue p (Sent q m) = length (queue p q) < capacity
HasRoom queue p (Taken q m) = queue q p ≡ m ∷ tail (queue q p)

module _ {N M : Type 0} (S : NodeSteps N M) where
  -- the node p can make the move x
  pub record CanMove (c : CoreState N M) (p : ℕ) (x : Move M) : Type 0 where
    pub node : N
    pub is : slice_get c.nodes p ≡ Some node
    pub does : IsMoveOf S node x
    pub room : HasRoom c.queue p x

  take-can : (c : CoreState N M) (p q : ℕ) (a : N) (x : Move M) → slice_get c.nodes p ≡ Some a → S.act a ≡ Take (record { 0 = q })
      → (letters : List M) → c.queue q p ≡ letters → take_of S q letters ≡ Some x → CanMove c p x
  take-can c p q a x is e [] le h = cc
  take-can c p q a x is e (m ∷ ms) le h =
      let k : x ≡ Taken q m = cc in
      rw k (record { node = a; is = is; does = e; room = rw le refl })

  send-can : (c : CoreState N M) (p q : ℕ) (a : N) (x : Move M) → slice_get c.nodes p ≡ Some a → S.act a ≡ Send (record { 0 = q }) → (b : Bool)
      → nat_lt (length (c.queue p q)) capacity ≡ b → (if b then Some (Sent q (S.letter a)) else None) ≡ Some x → CanMove c p x
  send-can c p q a x is e false be h = cc
  send-can c p q a x is e true be h =
      let k : x ≡ Sent q (S.letter a) = cc in
      rw k (record { node = a; is = is; does = (e, refl); room = ltb-true (length (c.queue p q)) capacity be })

  act-can : (c : CoreState N M) (p : ℕ) (a : N) (x : Move M) → slice_get c.nodes p ≡ Some a → (act : Act) → S.act a ≡ act → move_by S c.queue p a act ≡ Some x → CanMove c p x
  act-can c p a x is Local e h =
      let k : x ≡ Worked = cc in
      rw k (record { node = a; is = is; does = e; room = tt })
  act-can c p a x is (Send q) e h = send-can c p q.0 a x is e (nat_lt (length (c.queue p q.0)) capacity) refl h
  act-can c p a x is (Take q) e h = take-can c p q.0 a x is e (c.queue q.0 p) refl h
  act-can c p a x is Done e h = cc

  node-can : (c : CoreState N M) (p : ℕ) (x : Move M) → (o : Option N) → slice_get c.nodes p ≡ o → move_at S c.queue p o ≡ Some x → CanMove c p x
  node-can c p x None is h = cc
  node-can c p x (Some a) is h = act-can c p a x is (S.act a) refl h

  pub can-move : (c : CoreState N M) (p : ℕ) (x : Move M) → core_move S c p ≡ Some x → CanMove c p x
  can-move c p x h = node-can c p x (slice_get c.nodes p) refl h

  -- the node at p after its move
  pub nodes_after_same : (ns : List N) (p : ℕ) (x : Move M) (a : N) → slice_get ns p ≡ Some a → slice_get (nodes_after S ns p x) p ≡ Some (node_after S a x)
  nodes_after_same [] p x a h = cc
  nodes_after_same (b ∷ ns) zero x a h = let e : b ≡ a = cc in rw e refl
  nodes_after_same (b ∷ ns) (suc p) x a h = nodes_after_same ns p x a h

  pub nodes_after_other : (ns : List N) (p q : ℕ) (x : Move M) → p ≢ q → slice_get (nodes_after S ns p x) q ≡ slice_get ns q
  nodes_after_other [] p q x h = refl
  nodes_after_other (b ∷ ns) zero zero x h = absurd (h refl)
  nodes_after_other (b ∷ ns) zero (suc q) x h = refl
  nodes_after_other (b ∷ ns) (suc p) zero x h = refl
  nodes_after_other (b ∷ ns) (suc p) (suc q) x h = nodes_after_other ns p q x (λ e. h (ap suc e))

  -- these are the moves from the nodes ns to the core c
  pub record IsHistory (ns : List N) (c : CoreState N M) (H : ℕ → List (Move M)) : Type 0 where
    pub made : (p : ℕ) → AreMovesAt S (slice_get ns p) (H p)
    pub now : (p : ℕ) → slice_get c.nodes p ≡ after_at S (slice_get ns p) (H p)
    pub letters : (p q : ℕ) → sent q (H p) ≡ taken p (H q) ++ c.queue p q

  sent-one : (b1 b2 : Bool) (s t k K : List M) (m : M) → s ≡ t ++ k → (b1 ≡ true → b2 ≡ true → K ≡ k)
      → s ++ (if b1 && b2 then m ∷ [] else []) ≡ t ++ (if b1 && b2 then K ++ (m ∷ []) else k)
  sent-one true true s t k K m e h = rw (e, h refl refl) (append_assoc t k (m ∷ []))
  sent-one true false s t k K m e h = simp append-nil e
  sent-one false b2 s t k K m e h = simp append-nil e

  taken-one : (b1 b2 : Bool) (s t k K : List M) (m : M) → s ≡ t ++ k → (b1 ≡ true → b2 ≡ true → k ≡ m ∷ K)
      → s ≡ (t ++ (if b2 && b1 then m ∷ [] else [])) ++ (if b1 && b2 then K else k)
  taken-one true true s t k K m e h = e ∙ rw (h refl refl) (sym (append_assoc t (m ∷ []) K))
  taken-one true false s t k K m e h = simp append-nil e
  taken-one false true s t k K m e h = simp append-nil e
  taken-one false false s t k K m e h = simp append-nil e

  -- what one move sends and takes
  one-sent : (b : Bool) (q r : ℕ) (m : M) → sent r (if b then Sent q m ∷ [] else []) ≡ (if b && (q == r) then m ∷ [] else [])
  one-sent true q r m = refl
  one-sent false q r m = refl

  one-taken : (b : Bool) (q r : ℕ) (m : M) → taken r (if b then Taken q m ∷ [] else []) ≡ (if b && (q == r) then m ∷ [] else [])
  one-taken true q r m = refl
  one-taken false q r m = refl

  sent-taken : (b : Bool) (q r : ℕ) (m : M) → taken r (if b then Sent q m ∷ [] else []) ≡ []
  sent-taken true q r m = refl
  sent-taken false q r m = refl

  taken-sent : (b : Bool) (q r : ℕ) (m : M) → sent r (if b then Taken q m ∷ [] else []) ≡ []
  taken-sent true q r m = refl
  taken-sent false q r m = refl

  work-sent : (b : Bool) (r : ℕ) → sent {M = M} r (if b then Worked ∷ [] else []) ≡ []
  work-sent true r = refl
  work-sent false r = refl

  work-taken : (b : Bool) (r : ℕ) → taken {M = M} r (if b then Worked ∷ [] else []) ≡ []
  work-taken true r = refl
  work-taken false r = refl

  letters-after : (ns : List N) (c : CoreState N M) (H : ℕ → List (Move M)) (p : ℕ) (x : Move M) → HasRoom c.queue p x → IsHistory ns c H → (s t : ℕ)
      → sent t (H s ++ moves_in S p s (Some x)) ≡ taken s (H t ++ moves_in S p t (Some x)) ++ queue_after c.queue p x s t
  letters-after ns c H p Worked room history s t =
      simp (sent-append, taken-append, work-sent (p == s) t, work-taken (p == t) s, append-nil) (history.letters s t)
  letters-after ns c H p (Sent q m) room history s t =
      let e : (p == s) ≡ true → (q == t) ≡ true → c.queue p q ≡ c.queue s t = λ e1 e2. rw (eqb-true p s e1, eqb-true q t e2) refl in
      simp (sent-append, taken-append, one-sent (p == s) q t m, sent-taken (p == t) q s m, append-nil)
      (sent-one (p == s) (q == t) (sent t (H s)) (taken s (H t)) (c.queue s t) (c.queue p q) m (history.letters s t) e)
  letters-after ns c H p (Taken q m) room history s t =
      let e : (q == s) ≡ true → (p == t) ≡ true → c.queue s t ≡ m ∷ tail (c.queue q p) = λ e1 e2. rw (← (eqb-true q s e1), ← (eqb-true p t e2)) room in
      rw (sent-append, taken-append, taken-sent (p == s) q t m, one-taken (p == t) q s m, append-nil)
      (taken-one (q == s) (p == t) (sent t (H s)) (taken s (H t)) (c.queue s t) (tail (c.queue q p)) m (history.letters s t) e)

  -- the state of one node after one more move
  made-one : (o : Option N) (xs : List (Move M)) (a : N) (x : Move M) → AreMovesAt S o xs → Some a ≡ after_at S o xs → IsMoveOf S a x → AreMovesAt S o (xs ++ (x ∷ []))
  made-one o xs a x made now does = append_at S o xs (x ∷ []) made (subst (λ (n : Option N). AreMovesAt S n (x ∷ [])) now (does, tt))

  now-one : (o : Option N) (xs : List (Move M)) (a : N) (x : Move M) → Some a ≡ after_at S o xs → Some (node_after S a x) ≡ after_at S o (xs ++ (x ∷ []))
  now-one o xs a x now = rw (after_at-append S o xs (x ∷ []), ← now) refl

  history-moved : (ns : List N) (c : CoreState N M) (H : ℕ → List (Move M)) (p : ℕ) (m : Option (Move M)) → core_move S c p ≡ m → IsHistory ns c H
      → IsHistory ns (moved S c p m) (λ q. H q ++ moves_in S p q m)
  history-moved ns c H p None e history = record {
    made = λ q. rw append-nil (history.made q);
    now = λ q. rw append-nil (history.now q);
    letters = λ q r. rw (append-nil, append-nil) (history.letters q r);
  }
  history-moved ns c H p (Some x) e history =
      let can = can-move c p x e in
      let now : Some can.node ≡ after_at S (slice_get ns p) (H p) = sym can.is ∙ history.now p in
      record {
        made = λ q. elim (eqb_tells p q) [
          | inl t ↦ rw (t.0, ← t.1) (made-one (slice_get ns p) (H p) can.node x (history.made p) now can.does)
          | inr t ↦ rw (t.0, append-nil) (history.made q)
        ];
        now = λ q. elim (eqb_tells p q) [
          | inl t ↦ rw (t.0, ← t.1) (nodes_after_same c.nodes p x can.node can.is ∙ now-one (slice_get ns p) (H p) can.node x now)
          | inr t ↦ rw (t.0, append-nil) (nodes_after_other c.nodes p q x t.1 ∙ history.now q)
        ];
        letters = letters-after ns c H p x can.room history;
      }

  pub history-step : (ns : List N) (c : CoreState N M) (H : ℕ → List (Move M)) (p : ℕ) → IsHistory ns c H
      → IsHistory ns (core_step S c p) (λ q. H q ++ moves_in S p q (core_move S c p))
  history-step ns c H p history = history-moved ns c H p (core_move S c p) refl history

  history-start : (ns : List N) → IsHistory ns (start ns) (λ p. [])
  history-start ns = record { made = λ p. none_made (slice_get ns p); now = λ p. none_after (slice_get ns p); letters = λ p q. refl }
    where
      none_made : (o : Option N) → AreMovesAt S o []
      none_made None = refl
      none_made (Some a) = tt

      none_after : (o : Option N) → o ≡ after_at S o []
      none_after None = refl
      none_after (Some a) = refl

  history-same : (ns : List N) (c : CoreState N M) (H K : ℕ → List (Move M)) → ((p : ℕ) → H p ≡ K p) → IsHistory ns c H → IsHistory ns c K
  history-same ns c H K e history = record {
    made = λ p. rw (← (e p)) (history.made p);
    now = λ p. rw (← (e p)) (history.now p);
    letters = λ p q. rw (← (e p), ← (e q)) (history.letters p q);
  }

  pub history-run : (ns : List N) (ps : List ℕ) (c : CoreState N M) (H : ℕ → List (Move M)) → IsHistory ns c H → IsHistory ns (core_run S c ps) (λ q. H q ++ made_in S c ps q)
  history-run ns [] c H history = history-same ns c H (λ q. H q ++ []) (λ q. sym (append-nil (H q))) history
  history-run ns (p ∷ ps) c H history =
      history-same ns (core_run S (core_step S c p) ps) (λ q. (H q ++ moves_in S p q (core_move S c p)) ++ made_in S (core_step S c p) ps q) (λ q. H q ++ made_in S c (p ∷ ps) q)
      (λ q. append_assoc (H q) (moves_in S p q (core_move S c p)) (made_in S (core_step S c p) ps q))
      (history-run ns ps (core_step S c p) (λ q. H q ++ moves_in S p q (core_move S c p)) (history-step ns c H p history))

  -- a core that the choices reach from ns
  pub history-reached : (ns : List N) (ps : List ℕ) → IsHistory ns (core_run S (start ns) ps) (made_in S (start ns) ps)
  history-reached ns ps = history-run ns ps (start ns) (λ p. []) (history-start ns)
