-- Rounds of steps.
use Rattle.std.proofs.Common.{◌≡◌, ℕ, zero, suc, ◌+◌, ◌<◌, ◌≤◌, ◌≢◌, ◌⊎◌, inl, inr, Bool, true, is_some, List, [], ◌∷◌, ◌++◌, length, Option, Some, None, refl, sym, ◌∙◌, ap, subst, arith}
use Rattle.std.proofs.Common.{map, take, get_or, false, if◌then◌else◌, nat_lt, ◌*◌}
use Rattle.std.proofs.Math.Path.{fun_ext}
use Rattle.std.proofs.lemmas.List.{take_more, map-append, take-map, get_or-map, length-map}
use Rattle.std.proofs.Common.{Result, Ok, Err, OnErr}
use Rattle.node_law.specs.declared.act.Act.TheVariants.{Local}
use Rattle.std.specs.List.{slice_get}
use Rattle.hpf_base.specs.declared.node.NodeId.{NodeId}
use Rattle.std.proofs.lemmas.Bool.{cases_lt, cases_eq}
use Rattle.std.proofs.lemmas.Option.{slice_get_past}
use Rattle.node_law.specs.declared.stepped.Stepped.{Stepped}
use Rattle.node_law.specs.declared.stepped.Stepped.TheVariants.{Moved, NotReady, Ended}
use Rattle.node_law.specs.NodeSteps.{NodeSteps, Move, after_at}
use Rattle.node_law.specs.Phases.{Lockstep, all_moves}
use Rattle.node_law.specs.Cores.{CoreState, start, core_run, core_step, core_move, move_at, moved, nodes_after, made_in, IsFinished}
use Rattle.node_law.specs.Reached.{IsStep, IsReached, RunsTo, EndsInLockstep, answer_by, ActsAt}
use Rattle.node_core.specs.CoreLists.{lists, core_of}
use Rattle.node_core.specs.CoreView.{state, CoreView, StopsAt, WantsLocal}
use Rattle.node_law.proofs.NeverStuck.{never_stuck, all-done, done-at}
use Rattle.node_law.proofs.MovesLeft.{history-is, done-all, run-append}

module _ {N M : Type 0} (S : NodeSteps N M) where
  nodes_after-length : (ns : List N) (p : ℕ) (x : Move M) → length (nodes_after S ns p x) ≡ length ns
  nodes_after-length [] p x = refl
  nodes_after-length (a ∷ ns) zero x = refl
  nodes_after-length (a ∷ ns) (suc p) x = ap suc (nodes_after-length ns p x)

  moved-length : (c : CoreState N M) (p : ℕ) (m : Option (Move M)) → length (moved S c p m).nodes ≡ length c.nodes
  moved-length c p None = refl
  moved-length c p (Some x) = nodes_after-length c.nodes p x

  pub step-length : (c d : CoreState N M) (p : ℕ) (stepped : Stepped) → IsStep S c p stepped d → length d.nodes ≡ length c.nodes
  step-length c d p stepped h = ap (λ (e : CoreState N M). length e.nodes) h.leads ∙ moved-length c p (core_move S c p)

  pub runs-length : (c d : CoreState N M) → RunsTo S c d → length d.nodes ≡ length c.nodes
  runs-length c d r = ap (λ (e : CoreState N M). length e.nodes) r.1 ∙ go r.0 c
    where
      go : (ps : List ℕ) (e : CoreState N M) → length (core_run S e ps).nodes ≡ length e.nodes
      go [] e = refl
      go (p ∷ ps) e = go ps (core_step S e p) ∙ moved-length e p (core_move S e p)

  pub runs-on : (c d e : CoreState N M) (p : ℕ) (stepped : Stepped) → RunsTo S c d → IsStep S d p stepped e → RunsTo S c e
  runs-on c d e p stepped r h = (r.0 ++ (p ∷ []), h.leads ∙ ap (λ (x : CoreState N M). core_step S x p) r.1 ∙ sym (run-append S r.0 (p ∷ []) c))

  pub runs-trans : (c d e : CoreState N M) → RunsTo S c d → RunsTo S d e → RunsTo S c e
  runs-trans c d e r t = (r.0 ++ t.0, t.1 ∙ ap (λ (x : CoreState N M). core_run S x t.0) r.1 ∙ sym (run-append S r.0 t.0 c))

  -- one more choice
  pub choices-go : (i a b : CoreState N M) (choices : List NodeId) (k : ℕ) (d : NodeId) (stepped : Stepped) → k < length choices
      → a ≡ core_run S i (map (λ (n : NodeId). n.0) (take k choices)) → IsStep S a (get_or choices k d).0 stepped b
      → b ≡ core_run S i (map (λ (n : NodeId). n.0) (take (k + 1) choices))
  choices-go i a b choices k d stepped lt e step =
      rw (take_more choices k d lt, map-append)
      (step.leads ∙ ap (λ (x : CoreState N M). core_step S x (get_or choices k d).0) e
      ∙ sym (run-append S (map (λ (n : NodeId). n.0) (take k choices)) ((get_or choices k d).0 ∷ []) i))

  -- the choice at k wants memory
  pub stops : {E : Type 0} (r : Result (Unit {0}) E) (i a b : CoreView N M) (choices : List NodeId) (k : ℕ) (d : NodeId) → k < length choices
      → state a ≡ core_run S (state i) (map (λ (n : NodeId). n.0) (take k choices)) → b ≡ a → ActsAt S a.lists.nodes (get_or choices k d).0 Local
      → OnErr r (StopsAt S (state i) (map (λ (n : NodeId). n.0) choices) (state b))
  stops (Ok u) i a b choices k d lt e same acts = tt
  stops (Err x) i a b choices k d lt e same acts = (
    k,
    rw (length-map choices (λ (n : NodeId). n.0)) lt,
    ap (λ (x : CoreView N M). (state x)) same ∙ e ∙ ap (core_run S (state i)) (sym (take-map (λ (n : NodeId). n.0) k choices)),
    rw (get_or-map (λ (n : NodeId). n.0) choices k d 0 lt) (subst (λ (x : CoreView N M). ActsAt S x.lists.nodes (get_or choices k d).0 Local) (sym same) acts),
  )

  -- a step that wants memory is a local one
  pub wants-local : {E : Type 0} (r : Result (Unit {0}) E) (a b : CoreView N M) (p : ℕ) → b ≡ a → ActsAt S a.lists.nodes p Local → OnErr r (WantsLocal S b.lists.nodes)
  wants-local (Ok u) a b p same acts = tt
  wants-local (Err x) a b p same acts = (p, subst (λ (x : CoreView N M). ActsAt S x.lists.nodes p Local) (sym same) acts)

  -- no move was made
  no-move : (o : Option N) (m : Option (Move M)) (stepped : Stepped) → stepped ≢ Moved → stepped ≡ answer_by S o m → m ≡ None
  no-move o None stepped d e = refl
  no-move o (Some x) stepped d e = absurd (d e)

  -- a round so far: i is the core before it, and the nodes below the index have had their turn
  pub record Round (i a : CoreView N M) (index : ℕ) : Type 0 where
    pub same_length : length a.lists.nodes ≡ length i.lists.nodes
    pub runs : RunsTo S (state i) (state a)
    pub nearer : ((a ≡ i) × ((k : ℕ) → k < index → core_move S (state i) k ≡ None)) ⊎ (a.left < i.left)

  nearer-stays : (i a b : CoreView N M) (p : ℕ) (stepped : Stepped) → stepped ≢ Moved → b ≡ a → IsStep S (state a) p stepped (state b)
      → ((a ≡ i) × ((k : ℕ) → k < p → core_move S (state i) k ≡ None)) ⊎ (a.left < i.left)
      → ((b ≡ i) × ((k : ℕ) → k < p + 1 → core_move S (state i) k ≡ None)) ⊎ (b.left < i.left)
  nearer-stays i a b p stepped d e step (inl h) =
      let here : core_move S (state a) p ≡ None = no-move (slice_get a.lists.nodes p) (core_move S (state a) p) stepped d step.answers in
      let here2 : core_move S (state i) p ≡ None = subst (λ (x : CoreView N M). core_move S (state x) p ≡ None) h.0 here in
      inl (e ∙ h.0, λ k lt. elim (cases_eq p k) [ inl same ↦ subst (λ (t : ℕ). core_move S (state i) t ≡ None) same here2 | inr w ↦ h.1 k (omega arith) ])
  nearer-stays i a b p stepped d e step (inr h) = inr (let l : b.left ≡ a.left = ap (λ (x : CoreView N M). x.left) e in omega arith)

  nearer-moves : (i a b : CoreView N M) (p : ℕ) → suc b.left ≡ a.left → ((a ≡ i) × ((k : ℕ) → k < p → core_move S (state i) k ≡ None)) ⊎ (a.left < i.left) → b.left < i.left
  nearer-moves i a b p e (inl h) = let l : a.left ≡ i.left = ap (λ (x : CoreView N M). x.left) h.0 in omega arith
  nearer-moves i a b p e (inr h) = omega arith

  pub round-goes : (i a b : CoreView N M) (p : ℕ) (stepped : Stepped) → Round i a p → IsStep S (state a) p stepped (state b)
      → (stepped ≡ Moved → suc b.left ≡ a.left) → (stepped ≢ Moved → b ≡ a) → Round i b (p + 1)
  round-goes i a b p stepped r step left stays = record {
    same_length = step-length (state a) (state b) p stepped step ∙ r.same_length;
    runs = runs-on (state i) (state a) (state b) p stepped r.runs step;
    nearer = go stepped step left stays;
  }
    where
      go : (t : Stepped) → IsStep S (state a) p t (state b) → (t ≡ Moved → suc b.left ≡ a.left) → (t ≢ Moved → b ≡ a)
          → ((b ≡ i) × ((k : ℕ) → k < p + 1 → core_move S (state i) k ≡ None)) ⊎ (b.left < i.left)
      go Moved step left stays = inr (nearer-moves i a b p (left refl) r.nearer)
      go NotReady step left stays = nearer-stays i a b p NotReady (λ e. cc) (stays (λ e. cc)) step r.nearer
      go Ended step left stays = nearer-stays i a b p Ended (λ e. cc) (stays (λ e. cc)) step r.nearer

  -- a whole round brings the end nearer, since a core is never stuck
  pub round-ends : (i a : CoreView N M) (count : ℕ) → Round i a count → length i.lists.nodes ≤ count → IsReached S (state i) → ¬ IsFinished S (state i) → a.left < i.left
  round-ends i a count r le w not = go r.nearer
    where
      stuck : ((k : ℕ) → k < count → core_move S (state i) k ≡ None) → ⊥
      stuck none =
          elim (never_stuck S w.from w.run (state i) (made_in S (start w.from) w.choices) (history-is S (state i) w)) [
            | inl done ↦ not (all-done S i.lists.nodes done)
            | inr some ↦
                elim (cases_lt some.0 (length i.lists.nodes)) [
                  | inl lt ↦ (let e : core_move S (state i) some.0 ≡ None = none some.0 (omega arith) in
                      let t : is_some (core_move S (state i) some.0) ≡ true = some.1 in
                      absurd (clash (core_move S (state i) some.0) e t))
                  | inr ge ↦ absurd (clash (core_move S (state i) some.0) (ap (move_at S (state i).queue some.0) (slice_get_past i.lists.nodes some.0 ge)) some.1)
                ]
          ]
        where
          clash : (o : Option (Move M)) → o ≡ None → is_some o ≡ true → ⊥
          clash None e t = cc
          clash (Some x) e t = cc

      go : ((a ≡ i) × ((k : ℕ) → k < count → core_move S (state i) k ≡ None)) ⊎ (a.left < i.left) → a.left < i.left
      go (inl h) = absurd (stuck h.1)
      go (inr h) = h

  -- a finished core that a core leads to has the last nodes of the lockstep run
  pub ends-last : (c d : CoreState N M) → RunsTo S c d → IsFinished S d → EndsInLockstep S c d.nodes
  ends-last c d r done from run before e p =
      let w : IsReached S d =
      record {
        from = from;
        run = run;
        choices = before ++ r.0;
        is = r.1 ∙ ap (λ (x : CoreState N M). core_run S x r.0) e ∙ sym (run-append S before r.0 (start from));
      } in
      let all : made_in S (start from) (before ++ r.0) p ≡ all_moves run.phases run.last p = done-all S d w p (done-at S d.nodes done p) in
      (history-is S d w).now p ∙ ap (after_at S (slice_get from p)) all

  -- empty queues
  pub empty-core : (ns : List N) (qs : List (List M)) → ((k : ℕ) → get_or qs k [] ≡ []) → core_of (lists ns qs) ≡ start ns
  empty-core ns qs h = ap (λ (f : ℕ → ℕ → List M). let x : CoreState N M = record { nodes = ns; queue = f } in x) (fun_ext (λ p. fun_ext (λ q. at (nat_lt q (length ns)) p q)))
    where
      at : (b : Bool) (p q : ℕ) → (if b then get_or qs (p * length ns + q) [] else []) ≡ []
      at true p q = h (p * length ns + q)
      at false p q = refl

  pub new-reached : (ns : List N) (qs : List (List M)) → ((k : ℕ) → get_or qs k [] ≡ []) → Lockstep S (slice_get ns) → IsReached S (core_of (lists ns qs))
  new-reached ns qs h run = record { from = ns; run = run; choices = []; is = empty-core ns qs h }
