use Rattle.std.proofs.Common.{ℕ, List, slice_set, ◌∙◌, ap}
use Rattle.machine_steps.specs.Layout.{Layout}
use Rattle.owner_tables.specs.Views.{OwnersView}
use Rattle.owner_tables.proofs.Rows.{mapping-set}
use Rattle.owner_tables.proofs.owners.Owners.set_mapping.Goals as goal

abbrev of_rows : ℕ → List Layout → OwnersView
of_rows nodes layouts = record { layouts = layouts; nodes = nodes }

pub returns-clause-row : goal.returns-clause-row
returns-clause-row c =
    let v = c.args.self.now in
    c.set.ensures ∙ ap (of_rows v.nodes)
    (ap (λ t. slice_set v.layouts c.args.row t.layout) c.in_ok-table.ensures ∙ mapping-set v.layouts c.args.row c.args.table.now.layout c.requires.shape)
