use Rattle.std.proofs.Common.{◌≡◌, ◌<◌, sym, ◌∙◌, ap, subst, arith, length, get_or, drop, []}
use Rattle.hpf_base.proofs.Places.{place_at, place_at-next, places-get}
use Rattle.align_map.proofs.owners.node_coordinate.Goals as goal

pub loop-faster-preserved : goal.loop-faster-preserved
loop-faster-preserved c =
    (place_at-next c.dims-dims.result.now c.args.node.0 c.loop-faster.rest c.loop-faster.faster (omega (arith, ap length c.dims-dims.ensures.value))
    c.loop-faster.invariant).1

pub returns : goal.returns
returns c =
    let at : c.loop-faster.faster ≡ c.args.dim = omega arith in
    let within : c.args.dim < length c.dims-dims.result.now = omega (arith, ap length c.dims-dims.ensures.value) in
    let so_far : place_at (drop c.args.dim c.dims-dims.result.now) c.loop-faster.rest ≡ drop c.args.dim (place_at c.dims-dims.result.now c.args.node.0) =
    subst (λ i. place_at (drop i c.dims-dims.result.now) c.loop-faster.rest ≡ drop i (place_at c.dims-dims.result.now c.args.node.0)) at c.loop-faster.invariant in
    (place_at-next c.dims-dims.result.now c.args.node.0 c.loop-faster.rest c.args.dim within so_far).0
    ∙ ap (λ grid. get_or (place_at grid c.args.node.0) c.args.dim 0) c.dims-dims.ensures.value
    ∙ ap (λ place. get_or place c.args.dim 0) (sym (places-get c.args.grid.now c.args.node.0 [] c.requires.node))
