use Rattle.std.proofs.Common.{length, sym, ◌∙◌}
use Rattle.std.proofs.lemmas.Bool.{and_parts}
use Rattle.std.proofs.lemmas.List.Folds.{list_all-map}
use Rattle.node_code.specs.Texts.{instruction}
use Rattle.node_program.specs.Fits.{fits_rows, shapes_of}
use Rattle.node_cases.proofs.fitting.fits.Goals as goal

pub returns : goal.returns
returns c = λ so.
    let p = c.args.program.now in
    let both = and_parts c.are_on.result c.code_fits.result so in
    record {
      nodes = sym c.are_on.ensures ∙ both.0;
      code = list_all-map (fits_rows (length p.shapes.items) p.tables.items (shapes_of c.args.owners.now.layouts)) instruction p.code.items ∙ sym c.code_fits.ensures ∙ both.1;
    }
