use Rattle.std.proofs.Common.{sym, ◌∙◌}
use Rattle.directive_check.proofs.ChainLaws.{at_index}
use Rattle.directive_check.proofs.dims.dim_at.Goals as goal

pub returns : goal.returns
returns c = c.item_at.ensures ∙ sym (at_index c.args.dims.now c.args.place)
