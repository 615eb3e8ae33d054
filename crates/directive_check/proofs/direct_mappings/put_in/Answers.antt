use Rattle.directive_check.proofs.DirectLaws.{through_direct}
use Rattle.directive_check.proofs.direct_mappings.put_in.Goals as goal

pub returns-in-Linear : goal.returns-in-Linear
returns-in-Linear c =
    through_direct c.args.entry.now c.in-Linear.dim c.in-Linear.a c.in-Linear.b c.args.align.now c.entry_at.result c.in-Linear.is c.requires c.entry_at.ensures
