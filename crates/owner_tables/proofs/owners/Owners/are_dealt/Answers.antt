use Rattle.owner_tables.proofs.Dealt.{row-more}
use Rattle.owner_tables.proofs.owners.Owners.are_dealt.Goals as goal

pub loop-row-preserved : goal.loop-row-preserved
loop-row-preserved c =
    row-more c.args.self.now.nodes c.args.self.now.layouts c.loop-row.row c.row.result.now c.row.ensures.nodes c.row.ensures.size c.row.ensures.owned c.is_dealt.ensures c.loop-row.invariant
