use Rattle.owner_tables.proofs.Rows.{row-set}
use Rattle.owner_tables.proofs.owners.Owners.set.Goals as goal

pub returns-then-row-len : goal.returns-then-row-len
returns-then-row-len c = row-set c.self.inside.tables.items c.self.inside.nodes c.args.row c.args.table c.args.self.now c.self.view_is
