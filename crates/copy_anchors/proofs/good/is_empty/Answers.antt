use Rattle.std.proofs.Common.{arith}
use Rattle.copy_anchors.proofs.Empty.{all-some, none-there, one-more}
use Rattle.copy_anchors.proofs.good.is_empty.Goals as goal

pub returns-then-extent-eq0 : goal.returns-then-extent-eq0
returns-then-extent-eq0 c = none-there c.args.extents.now c.loop-extent.extent-index c.loop-extent-test.true c.if-extent-eq0.true

pub loop-extent-preserved : goal.loop-extent-preserved
loop-extent-preserved c = one-more c.args.extents.now c.loop-extent.extent-index c.loop-extent.invariant c.if-extent-eq0.false

pub returns : goal.returns
returns c = all-some c.args.extents.now c.loop-extent.extent-index c.loop-extent.invariant (omega (arith, c.loop-extent-test.false)) c.requires
