-- What a core step answers: NotReady exactly where the node waits for a queue, Ended exactly where it is Done.
use Rattle.std.proofs.Common.{◌≡◌, ℕ, zero, suc, ◌<◌, ◌≤◌, ◌==◌, ◌&&◌, ◌↔◌, inl, inr, Bool, true, false, List, [], ◌∷◌, ◌++◌, length, Option, Some, None, if◌then◌else◌, nat_lt, refl, sym, ◌∙◌, ap, subst, arith, length-append}
use Rattle.std.specs.List.{slice_get}
use Rattle.std.proofs.lemmas.Bool.{ltb-false, le-ltb}
use Rattle.node_law.specs.declared.act.Act.{Act}
use Rattle.node_law.specs.declared.act.Act.TheVariants.{Local, Send, Take, Done}
use Rattle.node_law.specs.declared.stepped.Stepped.{Stepped}
use Rattle.node_law.specs.declared.stepped.Stepped.TheVariants.{Moved, NotReady, Ended}
use Rattle.node_law.specs.NodeSteps.{NodeSteps, Move, Worked, Sent, Taken}
use Rattle.node_law.specs.Cores.{capacity, CoreState, start, tail, queue_after, take_of, move_by, move_at, core_move, moved, core_step, core_run}
use Rattle.node_law.specs.Reached.{IsReached, ActsAt, IsWaiting, answer, answer_by, unmoved, IsStep}
use Rattle.node_law.proofs.History.{HasRoom, can-move}

module _ {N M : Type 0} (S : NodeSteps N M) where
  some-node : (ns : List N) (p : ℕ) → p < length ns → (a : N) × (slice_get ns p ≡ Some a)
  some-node [] p lt = absurd (omega arith)
  some-node (a ∷ ns) zero lt = (a, refl)
  some-node (a ∷ ns) (suc p) lt = some-node ns p (omega arith)

  if-fits : (b : Bool) (xs ys : List M) → length xs ≤ capacity → length ys ≤ capacity → length (if b then xs else ys) ≤ capacity
  if-fits true xs ys h k = h
  if-fits false xs ys h k = k

  tail-fits : (xs : List M) → length xs ≤ capacity → length (tail xs) ≤ capacity
  tail-fits [] h = h
  tail-fits (x ∷ xs) h = omega arith

  fits-moved : (c : CoreState N M) (p : ℕ) (o : Option (Move M)) → core_move S c p ≡ o → ((s t : ℕ) → length (c.queue s t) ≤ capacity) → (s t : ℕ)
      → length ((moved S c p o).queue s t) ≤ capacity
  fits-moved c p None e h s t = h s t
  fits-moved c p (Some x) e h s t = go x (can-move S c p x e).room
    where
      go : (y : Move M) → HasRoom c.queue p y → length (queue_after c.queue p y s t) ≤ capacity
      go Worked room = h s t
      go (Sent q m) room = if-fits ((p == s) && (q == t)) (c.queue p q ++ (m ∷ [])) (c.queue s t) (rw length-append (omega arith)) (h s t)
      go (Taken q m) room = if-fits ((q == s) && (p == t)) (tail (c.queue q p)) (c.queue s t) (tail-fits (c.queue q p) (h q p)) (h s t)

  fits-run : (ps : List ℕ) (c : CoreState N M) → ((s t : ℕ) → length (c.queue s t) ≤ capacity) → (s t : ℕ) → length ((core_run S c ps).queue s t) ≤ capacity
  fits-run [] c h = h
  fits-run (p ∷ ps) c h = fits-run ps (core_step S c p) (fits-moved c p (core_move S c p) refl h)

  -- a queue of a reached core holds at most four letters
  pub queue-fits : (c : CoreState N M) → IsReached S c → (s t : ℕ) → length (c.queue s t) ≤ capacity
  queue-fits c w s t =
      subst (λ (d : CoreState N M). length (d.queue s t) ≤ capacity) (sym w.is) (fits-run w.choices (start w.from) (λ p q. omega arith) s t)

  -- the answer by the node's act, and by the move that it can make
  abbrev answer_of : Act → Option (Move M) → Stepped
  answer_of act (Some x) = Moved
  answer_of act None = unmoved act

  answer-of : (a : N) (o : Option (Move M)) → answer_by S (Some a) o ≡ answer_of (S.act a) o
  answer-of a (Some x) = refl
  answer-of a None = refl

  module _ (c : CoreState N M) (p : ℕ) where
    answer-at : (a : N) (act : Act) → slice_get c.nodes p ≡ Some a → S.act a ≡ act → answer S c p ≡ answer_of act (move_by S c.queue p a act)
    answer-at a act is e =
        ap (λ (o : Option N). answer_by S o (move_at S c.queue p o)) is
        ∙ answer-of a (move_by S c.queue p a (S.act a))
        ∙ ap (λ (t : Act). answer_of t (move_by S c.queue p a t)) e

    full : (q : ℕ) (m : M) (b : Bool) → nat_lt (length (c.queue p q)) capacity ≡ b → length (c.queue p q) ≤ capacity
        → NotReady ≡ answer_of (Send (record { 0 = q })) (if b then Some (Sent q m) else None) → length (c.queue p q) ≡ capacity
    full q m true e fits h = cc
    full q m false e fits h = let k = ltb-false (length (c.queue p q)) capacity e in omega arith

    empty : (q : ℕ) (letters : List M) → NotReady ≡ answer_of (Take (record { 0 = q })) (take_of S q letters) → letters ≡ []
    empty q [] h = refl
    empty q (m ∷ letters) h = cc

    waits : ((s t : ℕ) → length (c.queue s t) ≤ capacity) → (a : N) → slice_get c.nodes p ≡ Some a → (act : Act) → S.act a ≡ act
        → NotReady ≡ answer_of act (move_by S c.queue p a act) → IsWaiting S c p
    waits fits a is Local e h = cc
    waits fits a is (Send q) e h = inl (q, (a, is, e), full q.0 (S.letter a) (nat_lt (length (c.queue p q.0)) capacity) refl (fits p q.0) h)
    waits fits a is (Take q) e h = inr (q, (a, is, e), empty q.0 (c.queue q.0 p) h)
    waits fits a is Done e h = cc

    waits-back : IsWaiting S c p → answer S c p ≡ NotReady
    waits-back (inl (q, acts, e)) =
        answer-at acts.0 (Send q) acts.1 acts.2 ∙ rw (le-ltb (length (c.queue p q.0)) capacity (omega arith)) refl
    waits-back (inr (q, acts, e)) = answer-at acts.0 (Take q) acts.1 acts.2 ∙ rw e refl

    sends : (q : ℕ) (m : M) (b : Bool) → Ended ≡ answer_of (Send (record { 0 = q })) (if b then Some (Sent q m) else None) → ⊥
    sends q m true h = cc
    sends q m false h = cc

    takes : (q : ℕ) (letters : List M) → Ended ≡ answer_of (Take (record { 0 = q })) (take_of S q letters) → ⊥
    takes q [] h = cc
    takes q (m ∷ letters) h = cc

    ends : (a : N) → (act : Act) → S.act a ≡ act → Ended ≡ answer_of act (move_by S c.queue p a act) → S.act a ≡ Done
    ends a Local e h = cc
    ends a (Send q) e h = absurd (sends q.0 (S.letter a) (nat_lt (length (c.queue p q.0)) capacity) h)
    ends a (Take q) e h = absurd (takes q.0 (c.queue q.0 p) h)
    ends a Done e h = e

    pub not_ready-waits : (stepped : Stepped) (d : CoreState N M) → IsReached S c → p < length c.nodes → IsStep S c p stepped d → stepped ≡ NotReady ↔ IsWaiting S c p
    not_ready-waits stepped d w lt step = (
      λ e. let a = some-node c.nodes p lt in waits (queue-fits c w) a.0 a.1 (S.act a.0) refl (sym e ∙ step.answers ∙ answer-at a.0 (S.act a.0) a.1 refl),
      λ h. step.answers ∙ waits-back h,
    )

    pub ended-done : (stepped : Stepped) (d : CoreState N M) → p < length c.nodes → IsStep S c p stepped d → stepped ≡ Ended ↔ ActsAt S c.nodes p Done
    ended-done stepped d lt step = (
      λ e. let a = some-node c.nodes p lt in (a.0, a.1, ends a.0 (S.act a.0) refl (sym e ∙ step.answers ∙ answer-at a.0 (S.act a.0) a.1 refl)),
      λ h. step.answers ∙ answer-at h.0 Done h.1 h.2,
    )
