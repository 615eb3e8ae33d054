-- The steps of one phase, in the words of the code that makes them.
use Rattle.std.proofs.Common.{◌≡◌, ℕ, suc, ◌<◌, ◌≢◌, ◌⊎◌, inl, inr, true, is_some, IsSome, Option, Some, None, refl, sym, ◌∙◌, ap, subst, arith}
use Rattle.std.specs.List.{slice_get}
use Rattle.node_law.specs.declared.act.Act.{Act}
use Rattle.node_law.specs.declared.act.Act.TheVariants.{Local, Send, Take, Done}
use Rattle.node_law.specs.declared.stepped.Stepped.{Stepped}
use Rattle.node_law.specs.declared.stepped.Stepped.TheVariants.{Moved}
use Rattle.node_law.specs.NodeSteps.{NodeSteps, Move, IsDoneAt}
use Rattle.node_law.specs.NextPhase.{UnfinishedAt, IsNextPhase}
use Rattle.node_law.specs.Cores.{CoreState, start, core_move, core_run, IsEnabled}
use Rattle.node_law.specs.Reached.{RunsTo, IsStep, answer_by}
use Rattle.node_law.proofs.PhaseAlone.{only_phase}
use Rattle.node_law.proofs.UnderWay.{Passes, next-passes}
use Rattle.node_law.proofs.Passing.{local-empty, local-keeps, alone-on, all-passed, passed-done, passed-empty, passed-phased, same-end}
use Rattle.node_core.specs.declared.stage.Stage.{Stage}
use Rattle.node_core.specs.declared.stage.Stage.TheVariants.{Steps}
use Rattle.node_core.specs.CoreView.{state, CoreView, IsReady, EndAlike}
use Rattle.node_core.specs.Stage.{CanStep, CanPass, Advances}
use Rattle.node_core.proofs.Rounds.{runs-on}

module _ {N M : Type 0} (S : NodeSteps N M) where
  moved-by : (o : Option N) (m : Option (Move M)) (stepped : Stepped) → IsSome m → stepped ≡ answer_by S o m → stepped ≡ Moved
  moved-by o None stepped h e = cc
  moved-by o (Some x) stepped h e = e

  -- a step of an enabled node is a move, and brings the end nearer
  step-nearer : (a b : CoreView N M) (p : ℕ) (stepped : Stepped) → IsEnabled S (state a) p → IsStep S (state a) p stepped (state b)
      → (stepped ≡ Moved → suc b.left ≡ a.left) → suc b.left ≡ a.left
  step-nearer a b p stepped enabled step left = left (moved-by (slice_get a.lists.nodes p) (core_move S (state a) p) stepped enabled step.answers)

  advances-on : (i a b : CoreView N M) (p : ℕ) (stepped : Stepped) → IsStep S (state a) p stepped (state b) → suc b.left ≡ a.left → Advances S i a → Advances S i b
  advances-on i a b p stepped step left h = record {
    runs = runs-on S (state i) (state a) (state b) p stepped h.runs step;
    nearer = inr (go h.nearer);
  }
    where
      go : (a ≡ i) ⊎ (a.left < i.left) → b.left < i.left
      go (inl e) = let l : a.left ≡ i.left = ap (λ (x : CoreView N M). x.left) e in omega arith
      go (inr lt) = omega arith

  module _ (n : ℕ) where
    -- local steps of the phase lead from the core i to the core a
    pub record LocalSteps (i a : CoreView N M) : Type 0 where
      pub empty : state a ≡ start a.lists.nodes
      pub next : IsNextPhase S n (slice_get a.lists.nodes)
      pub advances : Advances S i a

    pub local-goes : (i a b : CoreView N M) (p : ℕ) (stepped : Stepped) → CanStep S n Steps (state a) p → IsStep S (state a) p stepped (state b)
        → (stepped ≡ Moved → suc b.left ≡ a.left) → LocalSteps i a → LocalSteps i b
    local-goes i a b p stepped (x, is, stage, enabled) step left h =
        let act : S.act x ≡ Local = stage.1 in
        record {
          empty = local-empty S (state a) (state b) p x stepped is act step h.empty;
          next = local-keeps S (state a) (state b) p x stepped is act step n stage.0 h.next;
          advances = advances-on i a b p stepped step (step-nearer a b p stepped enabled step left) h.advances;
        }

    -- sends and takes of the phase lead from the core i to the core a
    pub record Letters (i a : CoreView N M) : Type 0 where
      pub alone : RunsTo (only_phase S n) (state i) (state a)
      pub advances : Advances S i a

    pub letters-go : (i a b : CoreView N M) (p : ℕ) (stepped : Stepped) (stage : Stage) → CanStep S n stage (state a) p
        → IsStep S (state a) p stepped (state b) → (stepped ≡ Moved → suc b.left ≡ a.left) → Letters i a → Letters i b
    letters-go i a b p stepped stage can step left h = record {
      alone = alone-on S n (state i) (state a) (state b) p can.0 stepped h.alone can.1 can.2.0 step;
      advances = advances-on i a b p stepped step (step-nearer a b p stepped can.3 step left) h.advances;
    }

    -- where no node can send or take any more, the phase is passed
    module _ (i a : CoreView N M) (empty : state i ≡ start i.lists.nodes) (next : IsNextPhase S n (slice_get i.lists.nodes))
        (none : (p : ℕ) → ¬ CanStep S n Steps (state i) p) (h : Letters i a) (over : (p : ℕ) → ¬ CanPass S n (state a) p) where
      passes : Passes S n (slice_get i.lists.nodes)
      passes = next-passes S n i.lists.nodes (λ p x is e local. none p (x, is, (e, local), rw (is, local) refl)) next

      alone : RunsTo (only_phase S n) (start i.lists.nodes) (state a)
      alone = subst (λ (c : CoreState N M). RunsTo (only_phase S n) c (state a)) empty h.alone

      cannot : (p : ℕ) (x : N) → slice_get a.lists.nodes p ≡ Some x → S.phase x ≡ n → (act : Act) → S.act x ≡ act → act ≢ Local → ¬ IsEnabled S (state a) p
      cannot p x is e Local act d enabled = d refl
      cannot p x is e (Send q) act d enabled = over p (inl (x, is, (e, (q, act)), enabled))
      cannot p x is e (Take q) act d enabled = over p (inr (x, is, (e, (q, act)), enabled))
      cannot p x is e Done act d enabled = let t : is_some {T = Move M} None ≡ true = rw (is, act) at enabled in cc

      done : (p : ℕ) → IsDoneAt (only_phase S n) (slice_get a.lists.nodes p)
      done = all-passed S n i.lists.nodes passes (state a) alone (λ p x is e d. cannot p x is e (S.act x) refl d)

      pub letters-ready : IsReady S a
      letters-ready = record {
        empty = passed-empty S n i.lists.nodes passes (state a) alone done;
        phased = passed-phased S n i.lists.nodes passes (state a) alone done;
      }

      pub letters-passed : ¬ UnfinishedAt S a.lists.nodes n
      letters-passed (p, x, is, d, e) = d (passed-done S n i.lists.nodes passes (state a) alone done p x is e)

    -- a pass makes a move
    pub pass-less : (i a b : CoreView N M) → UnfinishedAt S i.lists.nodes n → ¬ UnfinishedAt S b.lists.nodes n → Advances S i a → Advances S a b → b.left < i.left
    pass-less i a b there passed h k = go h.nearer k.nearer
      where
        go : (a ≡ i) ⊎ (a.left < i.left) → (b ≡ a) ⊎ (b.left < a.left) → b.left < i.left
        go (inl e) (inl f) = absurd (passed (subst (λ (x : CoreView N M). UnfinishedAt S x.lists.nodes n) (sym (f ∙ e)) there))
        go (inl e) (inr lt) = let l : a.left ≡ i.left = ap (λ (x : CoreView N M). x.left) e in omega arith
        go (inr lt) (inl f) = let l : b.left ≡ a.left = ap (λ (x : CoreView N M). x.left) f in omega arith
        go (inr lt) (inr lt2) = omega arith

  pub ready-alike : (i a : CoreView N M) → state i ≡ start i.lists.nodes → state a ≡ start a.lists.nodes → RunsTo S (state i) (state a) → EndAlike S i.lists.nodes a.lists.nodes
  ready-alike i a empty ready r = same-end S i.lists.nodes a.lists.nodes (r.0, sym ready ∙ r.1 ∙ ap (λ (c : CoreState N M). core_run S c r.0) empty)
