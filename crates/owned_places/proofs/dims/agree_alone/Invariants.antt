use Rattle.std.proofs.Common.{◌≡◌, drop}
use Rattle.hpf_base.specs.Grid.{node_coordinates}
use Rattle.courses.specs.Subscripts.{alone}
use Rattle.owned_places.proofs.dims.agree_alone.Given as goal

-- what is left of the entries decides
abbrev pub invariant-loop-entry : goal.invariant-loop-entry
invariant-loop-entry l =
    alone (node_coordinates l.mapping.grid l.node) l.mapping.dims ≡ alone (node_coordinates l.mapping.grid l.node) (drop l.entry-index l.mapping.dims)
