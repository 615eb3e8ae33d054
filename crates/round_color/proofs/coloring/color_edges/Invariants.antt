use Rattle.std.proofs.Common.{◌≡◌, length, map, drop}
use Rattle.round_color.specs.Coloring.{color_edges}
use Rattle.round_color.specs.Table.{seen, ends}
use Rattle.round_color.proofs.coloring.color_edges.Given as goal

abbrev pub invariant-loop-edge : goal.invariant-loop-edge
invariant-loop-edge l = record {
  size : length l.table ≡ length l.initial.table;
  done : color_edges l.nodes (length l.edges) l.limit (seen l.nodes l.table) (map ends (drop l.edge-index l.edges))
      ≡ color_edges l.nodes (length l.edges) l.limit (seen l.nodes l.initial.table) (map ends l.edges);
}
