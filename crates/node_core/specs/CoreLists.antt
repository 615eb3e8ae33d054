-- Of a promise.
-- Cores as their fields hold them: lists of nodes and of queues.
use Rattle.std.specs.Prelude.{◌≡◌, ℕ, ◌+◌, ◌*◌, ◌<◌, ◌^◌, List, [], length, slice_index_or, if◌then◌else◌, nat_lt}
use Rattle.node_law.specs.NodeSteps.{NodeSteps}
use Rattle.node_law.specs.Cores.{CoreState}
use Rattle.node_law.specs.Reached.{IsReached}

-- the queue from p to q, where the queues of all pairs of n nodes stand one source after another
abbrev pub pair_queue : {M : Type 0} → ℕ → List (List M) → ℕ → ℕ → List M
pair_queue n queues p q = if nat_lt q n then slice_index_or queues (p * n + q) [] else []

-- a core as lists: its nodes, and the queues of all pairs
pub record CoreLists (N M : Type 0) : Type 0 where
  pub nodes : List N
  pub queues : List (List M)

abbrev pub lists : {N M : Type 0} → List N → List (List M) → CoreLists N M
lists ns qs = record { nodes = ns; queues = qs }

-- the core that is held so
abbrev pub core_of : {N M : Type 0} → CoreLists N M → CoreState N M
core_of c = record { nodes = c.nodes; queue = pair_queue (length c.nodes) c.queues }

-- what is true of each core: there is a queue for each pair, node numbers fit, and phased nodes reach it
pub record IsCore {N M : Type 0} (S : NodeSteps N M) (c : CoreLists N M) : Type 0 where
  pub pairs : length c.queues ≡ length c.nodes * length c.nodes
  pub few : length c.nodes < 2 ^ 32
  pub reached : IsReached S (core_of c)
