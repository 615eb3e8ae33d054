use Rattle.std.proofs.Common.{◌+◌, ◌*◌, ◌∙◌, ap, arith, get_or}
use Rattle.owner_tables.proofs.Weights.{weight-most, weight-next}
use Rattle.owner_tables.proofs.columns.weight.Goals as goal

pub overflow_mul-weight : goal.overflow_mul-weight
overflow_mul-weight c =
    let grid = c.args.grid.now in
    let k = c.loop-faster.faster in
    let here = ap (λ ds. c.loop-faster.weight * get_or ds k 0) c.dims-dims.ensures.value ∙ ap (λ w. w * get_or grid k 0) c.loop-faster.invariant in
    let few = weight-most grid (k + 1) c.dims-dims.ensures.valid.extents in
    omega (arith, here, weight-next grid k (omega (arith, c.loop-faster-test.true, c.requires)), few, c.dims-dims.ensures.valid.nodes)

pub loop-faster-preserved : goal.loop-faster-preserved
loop-faster-preserved c =
    let grid = c.args.grid.now in
    let k = c.loop-faster.faster in
    let here = ap (λ ds. c.loop-faster.weight * get_or ds k 0) c.dims-dims.ensures.value ∙ ap (λ w. w * get_or grid k 0) c.loop-faster.invariant in
    omega (arith, here, weight-next grid k (omega (arith, c.loop-faster-test.true, c.requires)))

pub returns-clause-most : goal.returns-clause-most
returns-clause-most c =
    omega (
      arith,
      c.loop-faster.invariant,
      weight-most c.args.grid.now c.loop-faster.faster c.dims-dims.ensures.valid.extents,
      c.dims-dims.ensures.valid.nodes,
    )
