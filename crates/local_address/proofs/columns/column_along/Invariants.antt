use Rattle.std.proofs.Common.{◌≡◌, map, filter}
use Rattle.std.specs.List.{range_with_len}
use Rattle.local_address.specs.Runs.{along, run_of, subscripts}
use Rattle.local_address.proofs.columns.column_along.Given as goal

-- what the nodes so far own
abbrev pub invariant-loop-node : goal.invariant-loop-node
invariant-loop-node l =
    l.runs.items ≡ map (λ node. run_of (filter (along l.map node l.dim) (subscripts l.lower l.extent))) (range_with_len 0 l.node)
