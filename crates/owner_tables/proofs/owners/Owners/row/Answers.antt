use Rattle.std.proofs.Common.{◌∙◌, ap}
use Rattle.machine_steps.specs.Layout.{owned_by, size_of}
use Rattle.owner_tables.proofs.Rows.{row-layout, row-owned, row-size}
use Rattle.owner_tables.proofs.owners.Owners.row.Goals as goal

pub returns-clause-size : goal.returns-clause-size
returns-clause-size c =
    let table = c.index.result.now in
    ap (λ t. size_of t.layout) c.tables.ensures
    ∙ ap size_of (row-layout c.self.inside.tables.items c.self.inside.nodes c.args.row table c.args.self.now table.layout c.self.view_is c.requires c.index.ensures)
    ∙ row-size c.args.self.now.layouts c.args.row table.layout c.requires

pub returns-clause-owned : goal.returns-clause-owned
returns-clause-owned c =
    let table = c.index.result.now in
    ap (λ t. owned_by t.layout) c.tables.ensures
    ∙ ap owned_by (row-layout c.self.inside.tables.items c.self.inside.nodes c.args.row table c.args.self.now table.layout c.self.view_is c.requires c.index.ensures)
    ∙ row-owned c.args.self.now.layouts c.args.row table.layout c.requires
