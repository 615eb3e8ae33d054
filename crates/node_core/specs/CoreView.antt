-- Of a promise.
-- Cores as contracts see them.
use Rattle.std.specs.Prelude.{◌≡◌, ℕ, ◌<◌, List, length, take, slice_index_or}
use Rattle.std.specs.List.{slice_get}
use Rattle.node_law.specs.declared.act.Act.TheVariants.{Local}
use Rattle.node_law.specs.NodeSteps.{NodeSteps, after_at}
use Rattle.node_law.specs.Phases.{Lockstep, all_moves}
use Rattle.node_law.specs.Cores.{CoreState, start, core_run}
use Rattle.node_law.specs.Reached.{ActsAt}
use Rattle.node_core.specs.CoreLists.{CoreLists, core_of}

-- a core: its nodes and the queues of all pairs, and how many moves of the lockstep run are left
pub record CoreView (N M : Type 0) : Type 0 where
  pub lists : CoreLists N M
  pub left : ℕ

-- the nodes and the queues by pairs
abbrev pub state : {N M : Type 0} → CoreView N M → CoreState N M
state c = core_of c.lists

module _ {N M : Type 0} (S : NodeSteps N M) where
  -- from old, the first of the choices lead to new, and there the next one is a local step
  abbrev pub StopsAt : CoreState N M → List ℕ → CoreState N M → Type 0
  StopsAt old choices new = (k : ℕ) × (k < length choices) × (new ≡ core_run S old (take k choices)) × ActsAt S new.nodes (slice_index_or choices k 0) Local

  -- a node is to make a local step
  abbrev pub WantsLocal : List N → Type 0
  WantsLocal ns = (p : ℕ) × ActsAt S ns p Local

  -- all queues are empty and the nodes are phased
  pub record IsReady (c : CoreView N M) : Type 0 where
    pub empty : state c ≡ start c.lists.nodes
    pub phased : Lockstep S (slice_get c.lists.nodes)

  -- the lockstep runs of these nodes have the same last nodes
  abbrev pub EndAlike : List N → List N → Type 0
  EndAlike old new =
      (run : Lockstep S (slice_get old)) (again : Lockstep S (slice_get new)) (p : ℕ)
      → after_at S (slice_get old p) (all_moves run.phases run.last p) ≡ after_at S (slice_get new p) (all_moves again.phases again.last p)
