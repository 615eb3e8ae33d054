use Rattle.std.proofs.Common.{◌≡◌, map, take}
use Rattle.std.specs.Option.{unwrap_or}
use Rattle.round_color.specs.Table.{seen, ends}
use Rattle.round_color.proofs.coloring.color.Given as goal

abbrev pub invariant-loop-edge : goal.invariant-loop-edge
invariant-loop-edge l = l.colors.items ≡ map (λ e. unwrap_or (seen l.nodes l.table.items e.0 e.1) 0) (map ends (take l.edge-index l.edges))
