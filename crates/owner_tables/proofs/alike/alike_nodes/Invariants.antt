use Rattle.std.proofs.Common.{◌≡◌, map}
use Rattle.std.specs.List.{range_with_len}
use Rattle.owner_tables.specs.Alike.{alike_nodes}
use Rattle.owner_tables.proofs.alike.alike_nodes.Given as goal

-- the lists of the nodes so far
abbrev pub invariant-loop-node : goal.invariant-loop-node
invariant-loop-node l = map (λ v. v.items) l.rows.items ≡ map (alike_nodes l.mapping l.nodes) (range_with_len 0 l.node)
