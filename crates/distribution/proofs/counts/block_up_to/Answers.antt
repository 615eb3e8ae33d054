use Rattle.std.proofs.Common.{◌∙◌}
use Rattle.distribution.proofs.CountLaws.{count-block}
use Rattle.distribution.proofs.counts.block_up_to.Goals as goal

pub returns : goal.returns
returns c = c.within.ensures ∙ count-block c.args.m c.args.node c.args.last c.requires.some
