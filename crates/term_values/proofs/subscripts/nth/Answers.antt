use Rattle.std.proofs.Common.{◌∙◌}
use Rattle.term_values.proofs.Members.{nth_is}
use Rattle.term_values.proofs.subscripts.nth.Goals as goal

pub returns : goal.returns
returns c = c.sum.ensures ∙ nth_is c.args.p.now.first c.args.x.now c.args.p.now.step _ _ c.difference-above.ensures c.product-steps.ensures
