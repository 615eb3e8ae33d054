use Rattle.std.proofs.Common.{◌≡◌, drop}
use Rattle.std.specs.List.{list_all}
use Rattle.hpf_base.specs.Grid.{node_coordinates}
use Rattle.owner_tables.specs.Alike.{is_alike, is_alike_in}
use Rattle.owner_tables.proofs.alike.is_alike.Given as goal

-- what is left of the entries decides
abbrev pub invariant-loop-entry : goal.invariant-loop-entry
invariant-loop-entry l =
    is_alike l.mapping l.one.0 l.other.0
    ≡ list_all (is_alike_in (node_coordinates l.mapping.grid l.one.0) (node_coordinates l.mapping.grid l.other.0)) (drop l.entry-index l.mapping.dims)
