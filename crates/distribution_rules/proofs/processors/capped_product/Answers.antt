use Rattle.std.proofs.Common.{min, arith}
use Rattle.hpf_base.specs.ElementOrder.{product}
use Rattle.distribution_rules.proofs.ArrangementExtents.{capped_next}
use Rattle.distribution_rules.proofs.processors.capped_product.Goals as goal

pub loop-extent-preserved : goal.loop-extent-preserved
loop-extent-preserved c = (
  capped_next 65 c.args.extents.now c.loop-extent.extent-index c.loop-extent.nodes 0 c.min-nodes.result (min (product c.args.extents.now) 65)
      c.loop-extent-test.true c.min-nodes.ensures c.loop-extent.invariant.0,
  omega (arith, c.min-nodes.ensures),
)
