use Rattle.std.proofs.Common.{◌≡◌, ◌≤◌, ◌*◌, All, drop, take}
use Rattle.hpf_base.specs.ElementOrder.{product}
use Rattle.hpf_base.proofs.grid.nodes_of.Given as goal

abbrev pub invariant-loop-extent : goal.invariant-loop-extent
invariant-loop-extent l =
    (1 ≤ l.nodes) × (l.nodes ≤ 64) × (l.nodes * product (drop l.extent-index l.dims) ≡ product l.dims)
    × All (λ extent. 1 ≤ extent) (take l.extent-index l.dims)
