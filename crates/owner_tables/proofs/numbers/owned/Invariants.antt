use Rattle.std.proofs.Common.{◌≡◌, get_or, if◌then◌else◌, map}
use Rattle.std.specs.List.{list_all, range_with_len}
use Rattle.hpf_base.specs.Grid.{node_coordinates}
use Rattle.local_address.specs.Runs.{fixed_agrees}
use Rattle.owner_tables.proofs.numbers.owned.Given as goal

-- how many elements the nodes so far own
abbrev pub invariant-loop-node : goal.invariant-loop-node
invariant-loop-node l =
    l.owned.items
    ≡ map (λ node. if list_all (fixed_agrees (node_coordinates l.mapping.grid node)) l.mapping.dims then get_or l.totals node 0 else 0) (range_with_len 0 l.node)
