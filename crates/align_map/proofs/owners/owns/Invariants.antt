use Rattle.std.proofs.Common.{◌≡◌, Some, map, drop}
use Rattle.std.specs.List.{list_all}
use Rattle.mappings.specs.Alignment.{agrees, owns}
use Rattle.hpf_base.specs.Grid.{node_coordinates}
use Rattle.align_map.proofs.owners.owns.Given as goal

-- what is left of the entries decides
abbrev pub invariant-loop-entry : goal.invariant-loop-entry
invariant-loop-entry l =
    owns l.map l.index l.node.0 ≡ list_all (agrees (node_coordinates l.map.grid l.node.0) (map Some l.index)) (drop l.entry-index l.map.dims)
