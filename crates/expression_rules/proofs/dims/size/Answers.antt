use Rattle.std.proofs.Common.{◌^◌, sym, ◌∙◌}
use Rattle.expression_rules.proofs.Sizes.{none_in, product_fits, size_fits}
use Rattle.expression_rules.proofs.dims.size.Goals as goal

pub returns-then-has_empty : goal.returns-then-has_empty
returns-then-has_empty c = none_in c.args.dims.now (sym c.has_empty.ensures ∙ c.if-has_empty.true)

-- the product so far is within all
pub overflow_mul-size : goal.overflow_mul-size
overflow_mul-size c =
    product_fits c.loop-dim.size c.extent-size.result
    (size_fits c.args.dims.now c.loop-dim.dim-index c.loop-dim.size (2 ^ 20) (sym c.has_empty.ensures ∙ c.if-has_empty.false) c.loop-dim.invariant c.requires.size)
    c.extent-size.ensures.few
