use Rattle.std.proofs.Common.{subst}
use Rattle.owner_tables.specs.Layouts.{IsLaid}
use Rattle.owner_tables.specs.Views.{TableView}
use Rattle.owner_tables.proofs.tables.Tables.mapping.Goals as goal

pub returns-clause-laid : goal.returns-clause-laid
returns-clause-laid c =
    let laid : TableView → Type 0 = λ v. IsLaid v.nodes v.layout in
    subst laid c.self.view_is c.self.invariant.laid
