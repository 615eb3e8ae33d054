-- The core as its fields hold it: what a change of a node and of a queue is.
use Rattle.std.proofs.Common.{◌≡◌, ℕ, zero, suc, ◌+◌, ◌*◌, ◌<◌, ◌≤◌, ◌≢◌, inl, inr, Bool, List, [], ◌∷◌, ◌++◌, length, set, get_or, Option, Some, None, if◌then◌else◌, IsTrue, is_some, not, true, false, nat_lt, ◌==◌, refl, sym, ◌∙◌, ap, subst, arith}
use Rattle.std.specs.List.{slice_get}
use Rattle.std.proofs.lemmas.Bool.{cases_lt, lt-ltb, le-ltb, ne_eqb, cases_order}
use Rattle.std.proofs.Math.Bool.{and-false}
use Rattle.std.proofs.Math.Path.{fun_ext}
use Rattle.std.proofs.Math.Nat.{mul-le-mul_left}
use Rattle.std.proofs.lemmas.Nat.{mul-add-lt}
use Rattle.std.proofs.lemmas.Bool.Decides.{eqb_tells}
use Rattle.std.proofs.lemmas.List.{get_or-set_same, get_or-set_other}
use Rattle.std.proofs.Math.ListN.{length-set}
use Rattle.std.proofs.lemmas.Option.{slice_get_within}
use Rattle.node_law.specs.declared.act.Act.{Act}
use Rattle.node_law.specs.declared.act.Act.TheVariants.{Local, Send, Take, Done}
use Rattle.hpf_base.specs.declared.node.NodeId.{NodeId}
use Rattle.node_law.specs.declared.stepped.Stepped.{Stepped}
use Rattle.node_law.specs.declared.stepped.Stepped.TheVariants.{Moved, NotReady, Ended}
use Rattle.node_law.specs.NodeSteps.{NodeSteps, Move, Worked, Sent, Taken, node_after}
use Rattle.node_law.specs.Cores.{capacity, CoreState, start, put, tail, queue_after, take_of, move_by, move_at, moved, core_move, core_step, made_in, nodes_after}
use Rattle.node_law.specs.Reached.{IsStep, answer_by, unmoved}
use Rattle.node_core.specs.CoreLists.{pair_queue, CoreLists, core_of, IsCore}
use Rattle.node_law.proofs.History.{IsHistory, history-reached}
use Rattle.node_law.proofs.MovesLeft.{reached-step}
use Rattle.node_law.proofs.NextMove.{target-in, source-in, awaited-in}

-- the index of the queue of a pair
pub index-in : (n p q : ℕ) → p < n → q < n → p * n + q < n * n
index-in n p q hp hq = mul-add-lt p n q n hp hq

pub index-same : (n p q s t : ℕ) → q < n → t < n → p * n + q ≡ s * n + t → (p ≡ s) × (q ≡ t)
index-same n p q s t hq ht e =
    elim (cases_order p s) [
      | inl h ↦ (h, (let k : p * n ≡ s * n = rw h refl in omega arith))
      | inr h ↦ elim h [
        | inl lt ↦ absurd (let k : n * suc p ≤ n * s = mul-le-mul_left n lt in omega arith)
        | inr lt ↦ absurd (let k : n * suc s ≤ n * p = mul-le-mul_left n lt in omega arith)
      ]
    ]

pub pair_queue-set : {M : Type 0} (n : ℕ) (queues : List (List M)) (p q : ℕ) (v : List M) → length queues ≡ n * n → p < n → q < n
    → pair_queue n (set queues (p * n + q) v) ≡ put (pair_queue n queues) p q v
pair_queue-set {M} n queues p q v e hp hq = fun_ext (λ s. fun_ext (λ t. at s t))
  where
    at : (s t : ℕ) → pair_queue n (set queues (p * n + q) v) s t ≡ put (pair_queue n queues) p q v s t
    at s t =
        elim (cases_lt t n) [
          | inl lt ↦ elim (eqb_tells p s) [
            | inl ps ↦ elim (eqb_tells q t) [
              | inl qt ↦
                  (let index : p * n + q < length queues = rw e (index-in n p q hp hq) in
                  let f : get_or (set queues (p * n + q) v) (s * n + t) [] ≡ v = rw (← ps.1, ← qt.1) (get_or-set_same queues (p * n + q) v [] index) in
                  rw (lt-ltb t n lt, ps.0, qt.0) f)
              | inr qt ↦
                  (let d : s * n + t ≢ p * n + q = λ h. qt.1 (sym (index-same n s t p q lt hq h).1) in
                  rw (lt-ltb t n lt, ps.0, qt.0) (get_or-set_other queues (p * n + q) (s * n + t) v [] d))
            ]
            | inr ps ↦
                (let d : s * n + t ≢ p * n + q = λ h. ps.1 (sym (index-same n s t p q lt hq h).0) in
                rw (lt-ltb t n lt, ps.0) (get_or-set_other queues (p * n + q) (s * n + t) v [] d))
          ]
          | inr ge ↦
              (let d : q ≢ t = λ h. absurd (omega arith) in
              rw (le-ltb t n ge, ne_eqb q t d, and-false) refl)
        ]

module _ {N M : Type 0} (S : NodeSteps N M) where
  pub nodes_after-set : (ns : List N) (p : ℕ) (x : Move M) (a : N) → slice_get ns p ≡ Some a → nodes_after S ns p x ≡ set ns p (node_after S a x)
  nodes_after-set [] p x a h = refl
  nodes_after-set (b ∷ ns) zero x a h = let e : b ≡ a = cc in rw e refl
  nodes_after-set (b ∷ ns) (suc p) x a h = ap (λ (l : List N). b ∷ l) (nodes_after-set ns p x a h)

  core-same : (ns ms : List N) (f g : ℕ → ℕ → List M) → ns ≡ ms → f ≡ g
      → (let x : CoreState N M = record { nodes = ns; queue = f } in let y : CoreState N M = record { nodes = ms; queue = g } in x ≡ y)
  core-same ns ms f g e h =
      ap (λ (l : List N). let x : CoreState N M = record { nodes = l; queue = f } in x) e
      ∙ ap (λ (k : ℕ → ℕ → List M). let x : CoreState N M = record { nodes = ms; queue = k } in x) h

  -- where the node p of a core is a, and what a step of it makes
  module _ (c : CoreLists N M) (ok : IsCore S c) (p : ℕ) (a : N) (is : slice_get c.nodes p ≡ Some a) where
    -- a step of p leads from c to d, answers so, and keeps what is true of a core
    pub record StepTo (stepped : Stepped) (d : CoreLists N M) : Type 0 where
      pub step : IsStep S (core_of c) p stepped (core_of d)
      pub core : IsCore S d

    kept : (stepped : Stepped) (d : CoreLists N M) → length d.nodes ≡ length c.nodes → length d.queues ≡ length c.queues
        → IsStep S (core_of c) p stepped (core_of d) → StepTo stepped d
    kept stepped d ln lq step = record {
      step = step;
      core = record {
        pairs = rw (ln, lq) ok.pairs;
        few = rw ln ok.few;
        reached = rw step.leads (reached-step S (core_of c) p ok.reached);
      };
    }

    move-at : {o : Option N} {act : Act} → slice_get c.nodes p ≡ o → S.act a ≡ act → core_move S (core_of c) p ≡ move_by S (core_of c).queue p a act
    move-at e act = ap (move_at S (core_of c).queue p) is ∙ ap (move_by S (core_of c).queue p a) act

    index-p : p < length c.nodes
    index-p = slice_get_within c.nodes p a is

    pub local-step : (b : N) → S.act a ≡ Local → b ≡ S.after_local a → StepTo Moved (record { nodes = set c.nodes p b; queues = c.queues })
    local-step b act e =
        kept Moved (record { nodes = set c.nodes p b; queues = c.queues }) (length-set c.nodes p b) refl
        (record {
          leads = rw (is, act, nodes_after-set c.nodes p Worked a is, length-set, e) refl;
          answers = rw (is, act) refl;
        })

    H : ℕ → List (Move M)
    H = made_in S (start ok.reached.from) ok.reached.choices

    history : IsHistory S ok.reached.from (core_of c) H
    unfolding H
    history =
        subst (λ (d : CoreState N M). IsHistory S ok.reached.from d (made_in S (start ok.reached.from) ok.reached.choices)) (sym ok.reached.is)
        (history-reached S ok.reached.from ok.reached.choices)

    target : (q : NodeId) → S.act a ≡ Send q → q.0 < length c.nodes
    target q act = target-in S ok.reached.from ok.reached.run (core_of c) H history p a q is act

    source : (q : NodeId) → S.act a ≡ Take q → q.0 < length c.nodes
    source q act = source-in S ok.reached.from ok.reached.run (core_of c) H history p a q is act

    read : (s t : ℕ) → t < length c.nodes → pair_queue (length c.nodes) c.queues s t ≡ get_or c.queues (s * length c.nodes + t) []
    read s t lt = rw (lt-ltb t (length c.nodes) lt) refl

    -- the places that a send and a take use
    pub target-index : (q : NodeId) → S.act a ≡ Send q → p * length c.nodes + q.0 < length c.queues
    target-index q act = rw ok.pairs (index-in (length c.nodes) p q.0 index-p (target q act))

    pub source-index : (q : NodeId) → S.act a ≡ Take q → q.0 * length c.nodes + p < length c.queues
    source-index q act = rw ok.pairs (index-in (length c.nodes) q.0 p (source q act) index-p)

    pub awaited-index : (q : NodeId) (m : M) (letters : List M) → S.act a ≡ Take q → get_or c.queues (q.0 * length c.nodes + p) [] ≡ m ∷ letters → IsTrue (S.awaits a m)
    awaited-index q m letters act f = awaited-in S ok.reached.from ok.reached.run (core_of c) H history p a q m letters is act (read q.0 p index-p ∙ f)

    -- the core after changes at the places of p and of a pair
    changed : (b : N) (s t : ℕ) (letters : List M) (x : Move M) → s < length c.nodes → t < length c.nodes → b ≡ node_after S a x
        → put (pair_queue (length c.nodes) c.queues) s t letters ≡ queue_after (pair_queue (length c.nodes) c.queues) p x
        → core_move S (core_of c) p ≡ Some x
        → core_of (record { nodes = set c.nodes p b; queues = set c.queues (s * length c.nodes + t) letters }) ≡ core_step S (core_of c) p
    changed b s t letters x ls lt e f move =
        core-same (set c.nodes p b) (nodes_after S c.nodes p x)
        (pair_queue (length (set c.nodes p b)) (set c.queues (s * length c.nodes + t) letters))
        (queue_after (pair_queue (length c.nodes) c.queues) p x)
        (rw e (sym (nodes_after-set c.nodes p x a is)))
        (rw (length-set c.nodes p b) (pair_queue-set (length c.nodes) c.queues s t letters ok.pairs ls lt ∙ f))
        ∙ ap (moved S (core_of c) p) (sym move)

    pub send-step : (b : N) (q : NodeId) (letters : List M) → S.act a ≡ Send q → b ≡ S.after_send a
        → letters ≡ get_or c.queues (p * length c.nodes + q.0) [] ++ (S.letter a ∷ [])
        → length (get_or c.queues (p * length c.nodes + q.0) []) < capacity
        → StepTo Moved (record { nodes = set c.nodes p b; queues = set c.queues (p * length c.nodes + q.0) letters })
    send-step b q letters act e f room =
        let x : Move M = Sent q.0 (S.letter a) in
        let r : pair_queue (length c.nodes) c.queues p q.0 ≡ get_or c.queues (p * length c.nodes + q.0) [] = read p q.0 (target q act) in
        let lt : length (pair_queue (length c.nodes) c.queues p q.0) < capacity = subst (λ (l : List M). length l < capacity) (sym r) room in
        let move : core_move S (core_of c) p ≡ Some x =
        move-at is act
        ∙ ap (λ (t : Bool). if t then Some x else None) (lt-ltb (length (pair_queue (length c.nodes) c.queues p q.0)) capacity lt) in
        let letters_are : letters ≡ pair_queue (length c.nodes) c.queues p q.0 ++ (S.letter a ∷ []) = f ∙ ap (λ (l : List M). l ++ (S.letter a ∷ [])) (sym r) in
        kept Moved (record { nodes = set c.nodes p b; queues = set c.queues (p * length c.nodes + q.0) letters }) (length-set c.nodes p b)
        (length-set c.queues (p * length c.nodes + q.0) letters)
        (record {
          leads = changed b p q.0 letters x index-p (target q act) e (ap (put (pair_queue (length c.nodes) c.queues) p q.0) letters_are) move;
          answers = sym (ap (answer_by S (slice_get c.nodes p)) move);
        })

    pub take-step : (b : N) (q : NodeId) (m : M) (letters : List M) → S.act a ≡ Take q → b ≡ S.after_take m a
        → get_or c.queues (q.0 * length c.nodes + p) [] ≡ m ∷ letters
        → StepTo Moved (record { nodes = set c.nodes p b; queues = set c.queues (q.0 * length c.nodes + p) letters })
    take-step b q m letters act e f =
        let x : Move M = Taken q.0 m in
        let r : pair_queue (length c.nodes) c.queues q.0 p ≡ m ∷ letters = read q.0 p index-p ∙ f in
        let move : core_move S (core_of c) p ≡ Some x = move-at is act ∙ ap (take_of S q.0) r in
        kept Moved (record { nodes = set c.nodes p b; queues = set c.queues (q.0 * length c.nodes + p) letters }) (length-set c.nodes p b)
        (length-set c.queues (q.0 * length c.nodes + p) letters)
        (record {
          leads = changed b q.0 p letters x (source q act) index-p e (ap (λ (l : List M). put (pair_queue (length c.nodes) c.queues) q.0 p (tail l)) (sym r)) move;
          answers = sym (ap (answer_by S (slice_get c.nodes p)) move);
        })

    stays : (act : Act) → S.act a ≡ act → (stepped : Stepped) → stepped ≡ unmoved act → core_move S (core_of c) p ≡ None → IsStep S (core_of c) p stepped (core_of c)
    stays act e stepped k move = record {
      leads = sym (ap (moved S (core_of c) p) move);
      answers = k ∙ sym (ap unmoved e) ∙ sym (ap (λ (o : Option N). answer_by S o None) is) ∙ sym (ap (answer_by S (slice_get c.nodes p)) move);
    }

    pub send-waits : (q : NodeId) → S.act a ≡ Send q → length (get_or c.queues (p * length c.nodes + q.0) []) ≡ capacity → IsStep S (core_of c) p NotReady (core_of c)
    send-waits q act full =
        let r : pair_queue (length c.nodes) c.queues p q.0 ≡ get_or c.queues (p * length c.nodes + q.0) [] = read p q.0 (target q act) in
        let ge : capacity ≤ length (pair_queue (length c.nodes) c.queues p q.0) = subst (λ (l : List M). capacity ≤ length l) (sym r) (omega arith) in
        let move : core_move S (core_of c) p ≡ None =
        move-at is act
        ∙ ap (λ (t : Bool). if t then Some (Sent q.0 (S.letter a)) else None)
        (le-ltb (length (pair_queue (length c.nodes) c.queues p q.0)) capacity ge) in
        stays (Send q) act NotReady refl move

    pub take-waits : (q : NodeId) → S.act a ≡ Take q → length (get_or c.queues (q.0 * length c.nodes + p) []) ≡ 0 → IsStep S (core_of c) p NotReady (core_of c)
    take-waits q act none =
        let r : pair_queue (length c.nodes) c.queues q.0 p ≡ [] = read q.0 p index-p ∙ empty (get_or c.queues (q.0 * length c.nodes + p) []) none in
        stays (Take q) act NotReady refl (move-at is act ∙ ap (take_of S q.0) r)
      where
        empty : (l : List M) → length l ≡ 0 → l ≡ []
        empty [] h = refl
        empty (y ∷ l) h = cc

    pub done-step : S.act a ≡ Done → IsStep S (core_of c) p Ended (core_of c)
    done-step act = stays Done act Ended refl (move-at is act)

    -- whether p can move
    pub local-enabled : S.act a ≡ Local → is_some (core_move S (core_of c) p) ≡ true
    local-enabled act = ap is_some (move-at is act)

    pub done-enabled : S.act a ≡ Done → is_some (core_move S (core_of c) p) ≡ false
    done-enabled act = ap is_some (move-at is act)

    pub send-enabled : (q : NodeId) (b : Bool) → S.act a ≡ Send q → nat_lt (length (get_or c.queues (p * length c.nodes + q.0) [])) capacity ≡ b
        → is_some (core_move S (core_of c) p) ≡ b
    send-enabled q b act e =
        ap is_some (move-at is act) ∙ go (nat_lt (length (pair_queue (length c.nodes) c.queues p q.0)) capacity)
        ∙ ap (λ (l : List M). nat_lt (length l) capacity) (read p q.0 (target q act)) ∙ e
      where
        go : (t : Bool) → is_some (if t then Some (Sent q.0 (S.letter a)) else None) ≡ t
        go true = refl
        go false = refl

    pub take-enabled : (q : NodeId) (l : List M) (b : Bool) → S.act a ≡ Take q → get_or c.queues (q.0 * length c.nodes + p) [] ≡ l
        → (length l == 0) ≡ b → is_some (core_move S (core_of c) p) ≡ not b
    take-enabled q l b act e f = ap is_some (move-at is act ∙ ap (take_of S q.0) (read q.0 p index-p ∙ e)) ∙ go l b f
      where
        go : (l : List M) (b : Bool) → (length l == 0) ≡ b → is_some (take_of S q.0 l) ≡ not b
        go [] b f = ap not f
        go (y ∷ l) b f = ap not (sym (ne_eqb (suc (length l)) 0 (λ e. absurd (omega arith))) ∙ f)
