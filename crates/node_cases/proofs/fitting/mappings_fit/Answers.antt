use Rattle.std.proofs.Common.{◌&&◌, nat_lt, sym, ◌∙◌}
use Rattle.std.proofs.lemmas.List.Folds.{list_all-map}
use Rattle.node_code.specs.Instructions.{NewMapping}
use Rattle.node_code.specs.Texts.{new_mapping}
use Rattle.node_program.specs.Fits.{fits_row, shapes_of}
use Rattle.node_cases.proofs.fitting.mappings_fit.Goals as goal

pub returns : goal.returns
returns c =
    let new = c.args.new.now.items in
    (λ i. c.are_declared.ensures i && c.rows_fit.ensures i)
    ∙ sym (λ i. list_all-map (λ (n : NewMapping). nat_lt n.array c.args.declared) new_mapping new i
    && list_all-map (fits_row c.args.tables.now.items (shapes_of c.args.owners.now.layouts)) new_mapping new i)
