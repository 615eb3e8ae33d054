use Rattle.std.proofs.Common.{◌≡◌, ◌-◌, map, max}
use Rattle.round_color.specs.Coloring.{load, greatest_of, degree}
use Rattle.round_color.specs.Table.{ends}
use Rattle.round_color.proofs.loads.degree.Given as goal

abbrev pub invariant-loop-node : goal.invariant-loop-node
invariant-loop-node l = degree l.nodes (map ends l.edges) ≡ max l.greatest (greatest_of (load (map ends l.edges)) l.node (l.nodes - l.node))
