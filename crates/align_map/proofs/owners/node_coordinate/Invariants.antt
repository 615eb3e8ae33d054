use Rattle.std.proofs.Common.{◌≡◌, drop}
use Rattle.hpf_base.proofs.Places.{place_at}
use Rattle.align_map.proofs.owners.node_coordinate.Given as goal

abbrev pub invariant-loop-faster : goal.invariant-loop-faster
invariant-loop-faster l = place_at (drop l.faster l.dims) l.rest ≡ drop l.faster (place_at l.dims l.fn.node.0)
