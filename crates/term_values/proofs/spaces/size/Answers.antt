use Rattle.term_values.proofs.Sizes.{product_zero}
use Rattle.term_values.proofs.spaces.size.Goals as goal

pub returns-then-n-eq0-clause-some : goal.returns-then-n-eq0-clause-some
returns-then-n-eq0-clause-some c = product_zero c.args.ns.now c.loop-n.n-index 0 c.loop-n-test.true c.if-n-eq0.true
