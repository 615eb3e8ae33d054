use Rattle.std.proofs.Common.{◌∙◌}
use Rattle.gap_table.proofs.UpTo.{next_is}
use Rattle.gap_table.proofs.table.GapTable.next.Goals as goal

pub returns : goal.returns
returns c = c.nth.ensures ∙ next_is c.args.self.now c.args.j c.up_to-count.result c.up_to-count.ensures
