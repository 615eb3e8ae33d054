-- Of a promise.
-- Prefix scans over nodes: who sends to whom in each round, and what the nodes have after them.
use Rattle.std.specs.Prelude.{ℕ, zero, suc, ◌+◌, ◌-◌, ◌^◌, Option, Some, None, nat_lt, if◌then◌else◌}
use Rattle.hpf_base.specs.declared.node.NodeId.{NodeId}
use Rattle.reduction_tree.specs.Tree.{node_id}

-- in round r node p sends to node p + 2^r, where that is a node
abbrev pub send_of : ℕ → ℕ → ℕ → Option NodeId
send_of nodes r p = if nat_lt (p + 2 ^ r) nodes then Some (node_id (p + 2 ^ r)) else None

-- and takes from node p - 2^r, where p is at least 2^r
abbrev pub take_of : ℕ → ℕ → Option NodeId
take_of r p = if nat_lt p (2 ^ r) then None else Some (node_id (p - 2 ^ r))

module _ {T : Type 0} (join : T → T → T) where
  -- what the node that is taken from has, joined before one's own
  abbrev pub joined_before : (ℕ → T) → Option NodeId → T → T
  joined_before has None own = own
  joined_before has (Some q) own = join (has q.0) own

  -- what a node has after so many rounds, where each begins with its item
  abbrev pub scanned : (ℕ → T) → ℕ → ℕ → T
  scanned items zero p = items p
  scanned items (suc k) p = joined_before (scanned items k) (take_of k p) (scanned items k p)

  -- what it took alone, beginning with the unit
  abbrev pub taken : T → (ℕ → T) → ℕ → ℕ → T
  taken unit items zero p = unit
  taken unit items (suc k) p = joined_before (scanned items k) (take_of k p) (taken unit items k p)
