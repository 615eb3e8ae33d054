use Rattle.std.proofs.Common.{subst}
use Rattle.hpf_base.specs.Shape.{IsShape}
use Rattle.owner_tables.specs.Views.{TableView}
use Rattle.owner_tables.proofs.tables.Tables.shape.Goals as goal

pub returns-clause-valid : goal.returns-clause-valid
returns-clause-valid c =
    let valid : TableView → Type 0 = λ v. IsShape v.layout.shape in
    subst valid c.self.view_is c.self.invariant.laid.shape
