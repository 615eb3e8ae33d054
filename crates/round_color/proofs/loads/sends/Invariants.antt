use Rattle.std.proofs.Common.{◌≡◌, ◌≤◌, take, map}
use Rattle.round_color.specs.Coloring.{sends}
use Rattle.round_color.specs.Table.{ends}
use Rattle.round_color.proofs.loads.sends.Given as goal

abbrev pub invariant-loop-edge : goal.invariant-loop-edge
invariant-loop-edge l = record {
  counted : l.count ≡ sends (map ends (take l.edge-index l.edges)) l.node;
  few : l.count ≤ l.edge-index;
}
