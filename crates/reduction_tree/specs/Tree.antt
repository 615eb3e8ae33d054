-- Of a promise.
-- Trees of rounds: who sends to whom, up to node 0 and down again, and what the nodes have after them.
use Rattle.std.specs.Prelude.{ℕ, zero, suc, ◌+◌, ◌-◌, ◌*◌, ◌%◌, ◌^◌, ◌==◌, ◌&&◌, Bool, nat_lt, nat_le, if◌then◌else◌}
use Rattle.std.specs.List.{range_with_len, position_or_len}
use Rattle.hpf_base.specs.declared.node.NodeId.{NodeId}
use Rattle.reduction_tree.specs.declared.tree.TreeAct.{TreeAct}
use Rattle.reduction_tree.specs.declared.tree.TreeAct.TheVariants.{Idle, Send, Take}

-- the number of rounds up: the least r for which 2^r is at least the number of nodes
abbrev pub levels : ℕ → ℕ
levels nodes = position_or_len (λ r. nat_le nodes (2 ^ r)) (range_with_len 0 nodes)

abbrev pub node_id : ℕ → NodeId
node_id number = record { 0 = number }

-- in up round r a node whose number mod 2^(r+1) is 2^r sends to its number less 2^r, and one whose number mod 2^(r+1) is 0
-- takes from its number plus 2^r, where that is a node
abbrev pub up_act : ℕ → ℕ → ℕ → TreeAct
up_act nodes r p =
    if p % (2 ^ r * 2) == 2 ^ r then Send (node_id (p - 2 ^ r))
    else if (p % (2 ^ r * 2) == 0) && nat_lt (p + 2 ^ r) nodes then Take (node_id (p + 2 ^ r))
    else Idle

abbrev pub exchanged : TreeAct → TreeAct
exchanged Idle = Idle
exchanged (Send q) = Take q
exchanged (Take q) = Send q

-- the rounds down are the rounds up backwards, with sends and takes exchanged
abbrev pub act_of : ℕ → ℕ → ℕ → TreeAct
act_of nodes round p =
    if nat_lt round (levels nodes) then up_act nodes round p
    else if nat_lt round (2 * levels nodes) then exchanged (up_act nodes (2 * levels nodes - 1 - round) p)
    else Idle

module _ {T : Type 0} (join : T → T → T) where
  -- what a node has after a round, from what all have before it: what it takes it joins to its own going up, and has in
  -- place of its own going down
  abbrev pub after_act : Bool → (ℕ → T) → ℕ → TreeAct → T
  after_act up has p Idle = has p
  after_act up has p (Send q) = has p
  after_act up has p (Take q) = if up then join (has p) (has q.0) else has q.0

  -- what a node has after so many rounds, where each begins with its item
  abbrev pub after_rounds : ℕ → (ℕ → T) → ℕ → ℕ → T
  after_rounds nodes items zero p = items p
  after_rounds nodes items (suc k) p = after_act (nat_lt k (levels nodes)) (after_rounds nodes items k) p (act_of nodes k p)
