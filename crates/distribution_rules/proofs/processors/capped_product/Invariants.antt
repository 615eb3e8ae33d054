use Rattle.std.proofs.Common.{◌≡◌, ◌*◌, ◌≤◌, drop, min}
use Rattle.hpf_base.specs.ElementOrder.{product}
use Rattle.distribution_rules.proofs.processors.capped_product.Given as goal

-- the product so far, times that of the rest, is all, as far as 65
abbrev pub invariant-loop-extent : goal.invariant-loop-extent
invariant-loop-extent l = (min (l.nodes * product (drop l.extent-index l.extents)) 65 ≡ min (product l.extents) 65) × (l.nodes ≤ 65)
