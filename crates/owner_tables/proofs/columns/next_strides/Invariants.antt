use Rattle.std.proofs.Common.{◌≡◌, ◌*◌, get_or, map}
use Rattle.std.specs.List.{range_with_len}
use Rattle.hpf_base.specs.Grid.{node_coordinates}
use Rattle.local_address.specs.Runs.{own_on}
use Rattle.owner_tables.proofs.columns.next_strides.Given as goal

-- the strides of the nodes so far
abbrev pub invariant-loop-node : goal.invariant-loop-node
invariant-loop-node l =
    l.next.items ≡ map (λ node. get_or l.strides node 0 * get_or l.counts (own_on (node_coordinates l.grid node) l.axis) 0) (range_with_len 0 l.node)
