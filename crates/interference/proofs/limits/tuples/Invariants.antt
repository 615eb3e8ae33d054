use Rattle.std.proofs.Common.{◌≡◌, ◌≤◌, ◌-◌, ◌*◌, ◌^◌, drop}
use Rattle.hpf_base.specs.ElementOrder.{product}
use Rattle.array_meaning.specs.Forall.{index_extents}
use Rattle.interference.specs.Limits.{saturated}
use Rattle.interference.proofs.limits.tuples.Given as goal

-- the tuples so far, times those of the indices that are left
abbrev pub invariant-loop-p : goal.invariant-loop-p
invariant-loop-p l = (saturated (l.n * product (index_extents (drop l.p-index l.axes))) ≡ saturated (product (index_extents l.axes))) × (l.n ≤ 2 ^ 128 - 1)
