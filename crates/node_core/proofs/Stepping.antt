-- A step of a core, in the words of the code that makes it.
use Rattle.std.proofs.Common.{◌≡◌, ℕ, ◌+◌, ◌*◌, ◌<◌, ◌==◌, ◌≢◌, false, List, [], ◌∷◌, ◌++◌, length, set, get_or, Option, Some, None, IsTrue, refl, sym, ◌∙◌, ap, subst, arith}
use Rattle.std.specs.List.{slice_get}
use Rattle.std.proofs.lemmas.Option.{slice_get_read}
use Rattle.std.proofs.lemmas.List.{get_or_default}
use Rattle.std.proofs.lemmas.Bool.{eqb-false}
use Rattle.node_law.specs.declared.act.Act.{Act}
use Rattle.node_law.specs.declared.act.Act.TheVariants.{Local, Send, Take, Done}
use Rattle.hpf_base.specs.declared.node.NodeId.{NodeId}
use Rattle.node_law.specs.declared.stepped.Stepped.{Stepped}
use Rattle.node_law.specs.declared.stepped.Stepped.TheVariants.{Moved, NotReady, Ended}
use Rattle.std.proofs.Common.{suc, true, is_some, IsSome, Result, Ok, Err, IfOk, OnErr}
use Rattle.node_law.specs.NodeSteps.{NodeSteps, Move}
use Rattle.node_law.specs.Cores.{capacity, CoreState, core_step, core_move}
use Rattle.node_law.specs.Reached.{IsStep, ActsAt, IsReached, MovesLeft, answer_by, unmoved, IsWaiting}
use Rattle.node_core.specs.CoreLists.{CoreLists, core_of, IsCore}
use Rattle.node_core.specs.CoreView.{CoreView, state}
use Rattle.node_law.proofs.OneMovesLeft.{left-is}
use Rattle.node_law.proofs.StepAnswers.{not_ready-waits, ended-done}
use Rattle.node_law.proofs.MovesLeft.{step-left, reached-step}
use Rattle.std.proofs.Common.{Bool, not, nat_lt, ◌↔◌}
use Rattle.std.proofs.lemmas.Bool.{lt-ltb, le-ltb}
use Rattle.node_core.proofs.Indices.{local-enabled, done-enabled, send-enabled, take-enabled, StepTo, local-step, send-step, take-step, send-waits, take-waits, done-step, target-index, source-index, awaited-index}

-- K is the core's fields and self the core; a is the node p, read there
module _ {N M : Type 0} {S : NodeSteps N M} {K : CoreLists N M} {self : CoreState N M} (ok : IsCore S K) (v : core_of K ≡ self) (p : ℕ) (req : p < length self.nodes) where
  pub in-nodes : p < length K.nodes
  in-nodes = subst (λ (c : CoreState N M). p < length c.nodes) (sym v) req

  pub is-node : (a : N) → a ≡ get_or K.nodes p a → slice_get K.nodes p ≡ Some a
  is-node a at = slice_get_read K.nodes (length K.nodes) p a refl in-nodes at

  same-node : (a b : N) → a ≡ get_or K.nodes p a → b ≡ get_or K.nodes p b → a ≡ b
  same-node a b ha hb = ha ∙ get_or_default K.nodes p a b in-nodes ∙ sym hb

  letters-at : (k : ℕ) (l : List M) → k < length K.queues → l ≡ get_or K.queues k l → get_or K.queues k [] ≡ l
  letters-at k l lt e = get_or_default K.queues k [] l lt ∙ sym e

  module _ (a : N) (at : a ≡ get_or K.nodes p a) where
    pub target-fits : (n : ℕ) (q : NodeId) → n ≡ length K.nodes → S.act a ≡ Send q → p * n + q.0 < length K.queues
    target-fits n q e act = rw e (target-index S K ok p a (is-node a at) q act)

    pub source-fits : (n : ℕ) (q : NodeId) → n ≡ length K.nodes → S.act a ≡ Take q → q.0 * n + p < length K.queues
    source-fits n q e act = rw e (source-index S K ok p a (is-node a at) q act)

    pub local-done : (b d : N) → S.act a ≡ Local → b ≡ get_or K.nodes p b → d ≡ S.after_local b
        → StepTo S K ok p a (is-node a at) Moved (record { nodes = set K.nodes p d; queues = K.queues })
    local-done b d act hb e = local-step S K ok p a (is-node a at) d act (e ∙ ap S.after_local (same-node b a hb at))

    pub send-done : (n : ℕ) (q : NodeId) (b d : N) (l letters : List M) (m : M) → n ≡ length K.nodes → S.act a ≡ Send q → b ≡ get_or K.nodes p b
        → d ≡ S.after_send b → m ≡ S.letter b → l ≡ get_or K.queues (p * n + q.0) l → length l < capacity → letters ≡ l ++ (m ∷ [])
        → StepTo S K ok p a (is-node a at) Moved (record { nodes = set K.nodes p d; queues = set K.queues (p * n + q.0) letters })
    send-done n q b d l letters m en act hb ed em hl room el =
        let same : b ≡ a = same-node b a hb at in
        let w : get_or K.queues (p * length K.nodes + q.0) [] ≡ l = letters-at (p * length K.nodes + q.0) l (target-fits (length K.nodes) q refl act) (rw en at hl) in
        let el2 : letters ≡ get_or K.queues (p * length K.nodes + q.0) [] ++ (S.letter a ∷ []) = rw w (el ∙ ap (λ (x : M). l ++ (x ∷ [])) (em ∙ ap S.letter same)) in
        rw en (send-step S K ok p a (is-node a at) d q letters act (ed ∙ ap S.after_send same) el2 (rw w room))

    pub take-done : (n : ℕ) (q : NodeId) (b d : N) (l letters : List M) (m : M) → n ≡ length K.nodes → S.act a ≡ Take q → b ≡ get_or K.nodes p b
        → d ≡ S.after_take m b → l ≡ get_or K.queues (q.0 * n + p) l → l ≡ m ∷ letters
        → StepTo S K ok p a (is-node a at) Moved (record { nodes = set K.nodes p d; queues = set K.queues (q.0 * n + p) letters })
    take-done n q b d l letters m en act hb ed hl el =
        let same : b ≡ a = same-node b a hb at in
        let w : get_or K.queues (q.0 * length K.nodes + p) [] ≡ l = letters-at (q.0 * length K.nodes + p) l (source-fits (length K.nodes) q refl act) (rw en at hl) in
        rw en (take-step S K ok p a (is-node a at) d q m letters act (ed ∙ ap (S.after_take m) same) (w ∙ el))

    pub take-awaited : (n : ℕ) (q : NodeId) (b : N) (l letters : List M) (m : M) → n ≡ length K.nodes → S.act a ≡ Take q → b ≡ get_or K.nodes p b
        → l ≡ get_or K.queues (q.0 * n + p) l → l ≡ m ∷ letters → IsTrue (S.awaits b m)
    take-awaited n q b l letters m en act hb hl el =
        let w : get_or K.queues (q.0 * length K.nodes + p) [] ≡ l = letters-at (q.0 * length K.nodes + p) l (source-fits (length K.nodes) q refl act) (rw en at hl) in
        rw (same-node b a hb at) (awaited-index S K ok p a (is-node a at) q m letters act (w ∙ el))

    pub send-full : (n : ℕ) (q : NodeId) (l : List M) → n ≡ length K.nodes → S.act a ≡ Send q → l ≡ get_or K.queues (p * n + q.0) l
        → length l ≡ capacity → IsStep S self p NotReady self
    send-full n q l en act hl full =
        let w : get_or K.queues (p * length K.nodes + q.0) [] ≡ l = letters-at (p * length K.nodes + q.0) l (target-fits (length K.nodes) q refl act) (rw en at hl) in
        rw (← v) (send-waits S K ok p a (is-node a at) q act (ap length w ∙ full))

    pub take-empty : (n : ℕ) (q : NodeId) (l : List M) → n ≡ length K.nodes → S.act a ≡ Take q → l ≡ get_or K.queues (q.0 * n + p) l → length l ≡ 0 → IsStep S self p NotReady self
    take-empty n q l en act hl none =
        let w : get_or K.queues (q.0 * length K.nodes + p) [] ≡ l = letters-at (q.0 * length K.nodes + p) l (source-fits (length K.nodes) q refl act) (rw en at hl) in
        rw (← v) (take-waits S K ok p a (is-node a at) q act (ap length w ∙ none))

    -- the same queue is read again
    pub send-room : (n : ℕ) (q : NodeId) (l l2 : List M) → n ≡ length K.nodes → S.act a ≡ Send q → l ≡ get_or K.queues (p * n + q.0) l
        → l2 ≡ get_or K.queues (p * n + q.0) l2 → length l < capacity → length l2 < capacity
    send-room n q l l2 en act h h2 room =
        let e : l ≡ l2 = h ∙ get_or_default K.queues (p * n + q.0) l l2 (target-fits n q en act) ∙ sym h2 in
        rw (← e) room

    pub take-some : (n : ℕ) (q : NodeId) (l l2 : List M) → n ≡ length K.nodes → S.act a ≡ Take q → l ≡ get_or K.queues (q.0 * n + p) l
        → l2 ≡ get_or K.queues (q.0 * n + p) l2 → (length l == 0) ≡ false → 0 < length l2
    take-some n q l l2 en act h h2 some =
        let e : l ≡ l2 = h ∙ get_or_default K.queues (q.0 * n + p) l l2 (source-fits n q en act) ∙ sym h2 in
        rw (← e) (let d : length l ≢ 0 = eqb-false (length l) 0 some in omega arith)

    -- whether the node can move, as tests of the code
    pub local-can : S.act a ≡ Local → is_some (core_move S self p) ≡ true
    local-can act = rw (← v) (local-enabled S K ok p a (is-node a at) act)

    pub done-can : S.act a ≡ Done → is_some (core_move S self p) ≡ false
    done-can act = rw (← v) (done-enabled S K ok p a (is-node a at) act)

    pub send-can : (n : ℕ) (q : NodeId) (l : List M) (full : Bool) → n ≡ length K.nodes → S.act a ≡ Send q → l ≡ get_or K.queues (p * n + q.0) l
        → (IsTrue full → length l ≡ capacity) → (full ≡ false → length l < capacity) → is_some (core_move S self p) ≡ not full
    send-can n q l full en act hl full_is room_is =
        let w : get_or K.queues (p * length K.nodes + q.0) [] ≡ l = letters-at (p * length K.nodes + q.0) l (target-fits (length K.nodes) q refl act) (rw en at hl) in
        rw (← v) (send-enabled S K ok p a (is-node a at) q (not full) act (ap (λ (x : List M). nat_lt (length x) capacity) w ∙ go full full_is room_is))
      where
        go : (t : Bool) → (IsTrue t → length l ≡ capacity) → (t ≡ false → length l < capacity) → nat_lt (length l) capacity ≡ not t
        go true full_is room_is = le-ltb (length l) capacity (let e : length l ≡ capacity = full_is refl in omega arith)
        go false full_is room_is = lt-ltb (length l) capacity (room_is refl)

    pub take-can : (n : ℕ) (q : NodeId) (l : List M) (empty : Bool) → n ≡ length K.nodes → S.act a ≡ Take q → l ≡ get_or K.queues (q.0 * n + p) l
        → empty ≡ (length l == 0) → is_some (core_move S self p) ≡ not empty
    take-can n q l empty en act hl e =
        let w : get_or K.queues (q.0 * length K.nodes + p) [] ≡ l = letters-at (q.0 * length K.nodes + p) l (source-fits (length K.nodes) q refl act) (rw en at hl) in
        rw (← v) (take-enabled S K ok p a (is-node a at) q l empty act w (sym e))

    pub done-ends : S.act a ≡ Done → IsStep S self p Ended self
    done-ends act = rw (← v) (done-step S K ok p a (is-node a at) act)

    -- what such a step is from the core's value
    pub from-value : (stepped : Stepped) (d : CoreLists N M) → StepTo S K ok p a (is-node a at) stepped d → IsStep S self p stepped (core_of d)
    from-value stepped d h = rw (← v) h.step

-- what a step does to the number of moves left
module _ {N M : Type 0} (S : NodeSteps N M) where
  moved-enabled : (o : Option N) (m : Option (Move M)) → Moved ≡ answer_by S o m → IsSome m
  moved-enabled o (Some x) e = refl
  moved-enabled None None e = cc
  moved-enabled (Some a) None e = none (S.act a) e
    where
      none : (act : Act) → Moved ≡ unmoved act → is_some {T = Move M} None ≡ true
      none Local e = cc
      none (Send q) e = cc
      none (Take q) e = cc
      none Done e = cc

  -- the same core, or the one after a step
  pub left-kept : (c d : CoreState N M) (l : MovesLeft S c) (k : MovesLeft S d) → IsReached S c → d ≡ c → k.0 ≡ l.0
  left-kept c d l k w e =
      let v : IsReached S d = record { from = w.from; run = w.run; choices = w.choices; is = e ∙ w.is } in
      left-is S d k v ∙ sym (left-is S c l w)

  pub left-moved : (c d : CoreState N M) (p : ℕ) (l : MovesLeft S c) (k : MovesLeft S d) → IsReached S c → IsStep S c p Moved d → suc k.0 ≡ l.0
  left-moved c d p l k w step =
      let u : IsReached S (core_step S c p) = reached-step S c p w in
      let v : IsReached S d = record { from = u.from; run = u.run; choices = u.choices; is = step.leads ∙ u.is } in
      ap suc (left-is S d k v) ∙ sym (step-left S c w p (moved-enabled (slice_get c.nodes p) (core_move S c p) step.answers)) ∙ sym (left-is S c l w)

  -- the answers in the words of the clauses: K is the core's fields before, D after, and old the core before
  module _ (K D : CoreLists N M) (old : CoreState N M) (v : core_of K ≡ old) (w : IsReached S (core_of K)) where
    here : (p : ℕ) → p < length old.nodes → p < length K.nodes
    here p lt = subst (λ (x : CoreState N M). p < length x.nodes) (sym v) lt

    pub not_ready-clause : {E : Type 0} → (p : ℕ) (r : Result Stepped E) → p < length old.nodes
        → IfOk r (λ stepped. IsStep S (core_of K) p stepped (core_of D)) → IfOk r (λ stepped. stepped ≡ NotReady ↔ IsWaiting S old p)
    not_ready-clause p (Ok stepped) lt step =
        subst (λ (x : CoreState N M). stepped ≡ NotReady ↔ IsWaiting S x p) v (not_ready-waits S (core_of K) p stepped (core_of D) w (here p lt) step)
    not_ready-clause p (Err e) lt step = tt

    pub ended-clause : {E : Type 0} → (p : ℕ) (r : Result Stepped E) → p < length old.nodes
        → IfOk r (λ stepped. IsStep S (core_of K) p stepped (core_of D)) → IfOk r (λ stepped. stepped ≡ Ended ↔ ActsAt S old.nodes p Done)
    ended-clause p (Ok stepped) lt step =
        subst (λ (x : CoreState N M). stepped ≡ Ended ↔ ActsAt S x.nodes p Done) v (ended-done S (core_of K) p stepped (core_of D) (here p lt) step)
    ended-clause p (Err e) lt step = tt

  -- the moves left in the words of the clauses: old is the core's value before
  module _ (K D : CoreLists N M) (l : MovesLeft S (core_of K)) (k : MovesLeft S (core_of D)) (old : CoreView N M)
      (v : (let x : CoreView N M = record { lists = K; left = l.0 } in x ≡ old)) (w : IsReached S (core_of K)) where
    pub left-clause : {E : Type 0} → (p : ℕ) (r : Result Stepped E) → IfOk r (λ stepped. IsStep S (core_of K) p stepped (core_of D))
        → IfOk r (λ stepped. stepped ≡ Moved → suc k.0 ≡ old.left)
    left-clause p (Ok stepped) step = λ e.
        let s : IsStep S (core_of K) p Moved (core_of D) = subst (λ (t : Stepped). IsStep S (core_of K) p t (core_of D)) e step in
        left-moved (core_of K) (core_of D) p l k w s ∙ ap (λ (x : CoreView N M). x.left) v
    left-clause p (Err e) step = tt

    kept-value : D ≡ K → (let x : CoreView N M = record { lists = D; left = k.0 } in x ≡ old)
    kept-value e =
        same D K k.0 l.0 e (left-kept (core_of K) (core_of D) l k w (ap core_of e)) ∙ v
      where
        same : (a b : CoreLists N M) (m n : ℕ) → a ≡ b → m ≡ n
            → (let x : CoreView N M = record { lists = a; left = m } in let y : CoreView N M = record { lists = b; left = n } in x ≡ y)
        same a b m n h g =
            ap (λ (t : CoreLists N M). let x : CoreView N M = record { lists = t; left = m } in x) h
            ∙ ap (λ (t : ℕ). let x : CoreView N M = record { lists = b; left = t } in x) g

    pub stays-clause : {E : Type 0} → (r : Result Stepped E) → IfOk r (λ stepped. stepped ≢ Moved → D ≡ K)
        → IfOk r (λ stepped. stepped ≢ Moved → (let x : CoreView N M = record { lists = D; left = k.0 } in x ≡ old))
    stays-clause (Ok stepped) h = λ d. kept-value (h d)
    stays-clause (Err e) h = tt

    pub same-clause : {E : Type 0} → (r : Result Stepped E) → OnErr r (D ≡ K) → OnErr r (let x : CoreView N M = record { lists = D; left = k.0 } in x ≡ old)
    same-clause (Ok stepped) h = tt
    same-clause (Err e) h = kept-value h

pub state-of : {N M : Type 0} (x y : CoreView N M) → x ≡ y → state x ≡ state y
state-of x y e = ap state e

pub same-test : (b t : Bool) → t ≡ b → IsTrue b ↔ (t ≡ true)
same-test b t e = (λ h. e ∙ h, λ h. sym e ∙ h)
