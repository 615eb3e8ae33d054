use Rattle.std.proofs.Common.{◌≡◌, ◌-◌, ◌==◌, map}
use Rattle.round_color.specs.Coloring.{load, first_passing, degree, busiest_node}
use Rattle.round_color.specs.Table.{ends}
use Rattle.round_color.proofs.loads.busiest_node.Given as goal

abbrev pub invariant-loop-node : goal.invariant-loop-node
invariant-loop-node l =
    busiest_node l.nodes (map ends l.edges) ≡ first_passing (λ node. load (map ends l.edges) node == degree l.nodes (map ends l.edges)) l.node (l.nodes - l.node)
