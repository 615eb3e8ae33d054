use Rattle.hpf_base.specs.declared.limits.TheConstants.{MAX_ELEMENTS}
use Rattle.std.proofs.Common.{◌+◌, ◌*◌, ◌∙◌, ap, min, arith}
use Rattle.declarations.specs.Declaring.{capped_elements}
use Rattle.declarations.proofs.ArrayLimits.{capped_next, product_fits}
use Rattle.declarations.proofs.limits.capped_elements.Goals as goal

pub overflow_mul-elements : goal.overflow_mul-elements
overflow_mul-elements c = product_fits c.loop-dim.elements c.extent.result c.loop-dim.invariant.1 c.extent.ensures.few

pub loop-dim-preserved : goal.loop-dim-preserved
loop-dim-preserved c =
    let more = c.min-elements.ensures ∙ ap (λ e. min (c.loop-dim.elements * e) (MAX_ELEMENTS + 1)) c.extent.ensures.value in (
      capped_next (MAX_ELEMENTS + 1) c.args.dims.now c.loop-dim.dim-index c.loop-dim.elements _ c.min-elements.result (capped_elements c.args.dims.now)
          c.loop-dim-test.true more c.loop-dim.invariant.0,
      omega (arith, more),
    )
