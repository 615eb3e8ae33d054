use Rattle.std.proofs.Common.{◌≡◌, ◌*◌, ◌<◌, ◌≤◌, ap, arith, get_or, length, map, unsigned_abs}
use Rattle.std.proofs.lemmas.List.{length-map}
use Rattle.hpf_base.specs.ElementOrder.{product}
use Rattle.hpf_base.proofs.ElementOrder.{product-front}
use Rattle.local_address.proofs.ElementLaws.{some_extents}
use Rattle.local_address.proofs.element.product_of.Goals as goal

pub overflow_mul-count : goal.overflow_mul-count
overflow_mul-count c =
    let extents = map unsigned_abs c.args.extents.now in
    let inside : c.loop-dim.dim < length extents = omega (arith, length-map c.args.extents.now unsigned_abs) in
    let upto : c.loop-dim.count * get_or extents c.loop-dim.dim 0 ≤ product extents =
    product-front extents c.loop-dim.count c.loop-dim.dim inside c.loop-dim.invariant (some_extents c.args.extents.now c.requires.some) in
    let is : c.loop-dim.count * c.extent_of-count.result ≡ c.loop-dim.count * get_or extents c.loop-dim.dim 0 =
    ap (λ n. c.loop-dim.count * n) c.extent_of-count.ensures in
    omega (arith, upto, is, c.requires.most)
