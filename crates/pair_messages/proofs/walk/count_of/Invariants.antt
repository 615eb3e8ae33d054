use Rattle.std.proofs.Common.{◌≡◌, ◌≤◌, ◌-◌, ◌*◌, ◌^◌, drop}
use Rattle.hpf_base.specs.ElementOrder.{product}
use Rattle.pair_messages.specs.Counts.{saturated}
use Rattle.pair_messages.proofs.walk.count_of.Given as goal

-- the product so far, times those that are left
abbrev pub invariant-loop-extent : goal.invariant-loop-extent
invariant-loop-extent l = (saturated (l.count * product (drop l.extent-index l.extents)) ≡ saturated (product l.extents)) × (l.count ≤ 2 ^ 64 - 1)
