use Rattle.std.proofs.Common.{◌≡◌, drop}
use Rattle.std.specs.List.{list_all}
use Rattle.hpf_base.specs.Grid.{node_coordinates}
use Rattle.local_address.specs.Runs.{fixed_agrees}
use Rattle.local_address.proofs.axes.fixed_agree.Given as goal

-- what is left of the entries decides
abbrev pub invariant-loop-entry : goal.invariant-loop-entry
invariant-loop-entry l =
    list_all (fixed_agrees (node_coordinates l.map.grid l.node.0)) l.map.dims
    ≡ list_all (fixed_agrees (node_coordinates l.map.grid l.node.0)) (drop l.entry-index l.map.dims)
