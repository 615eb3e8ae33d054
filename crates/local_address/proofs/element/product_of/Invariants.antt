use Rattle.std.proofs.Common.{◌≡◌, ◌*◌, drop, map, unsigned_abs}
use Rattle.hpf_base.specs.ElementOrder.{product}
use Rattle.local_address.proofs.element.product_of.Given as goal

abbrev pub invariant-loop-dim : goal.invariant-loop-dim
invariant-loop-dim l = l.count * product (drop l.dim (map unsigned_abs l.extents)) ≡ product (map unsigned_abs l.extents)
