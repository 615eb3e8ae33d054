use Rattle.owner_tables.proofs.Dealt.{AreOwnedBelow}
use Rattle.owner_tables.proofs.owners.Owners.are_dealt.Given as goal

abbrev pub invariant-loop-row : goal.invariant-loop-row
invariant-loop-row l = AreOwnedBelow l.row l.self.nodes l.self.layouts
