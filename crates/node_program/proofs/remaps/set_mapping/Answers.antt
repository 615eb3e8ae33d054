use Rattle.std.proofs.Common.{[], refl, sym, ◌∙◌, ap, arith}
use Rattle.machine_steps.specs.Machine.{remapped}
use Rattle.code_meaning.specs.Instructions.{remapping_by}
use Rattle.node_code.specs.Texts.{new_mapping}
use Rattle.node_program.proofs.FitLaws.{mapping-there, row-shaped}
use Rattle.node_program.proofs.remaps.set_mapping.Goals as goal

pub set_mapping-requires-clause-shape : goal.set_mapping-requires-clause-shape
set_mapping-requires-clause-shape c =
    row-shaped c.args.tables.now c.args.new.now.map c.index-tables-new.result (omega (arith, c.if-new-tables.false)) c.index-tables-new.is
    c.args.owners.now.layouts (new_mapping c.args.new.now) refl c.requires.shape

pub returns-clause-layouts : goal.returns-clause-layouts
returns-clause-layouts c =
    ap (λ o. o.layouts) c.in_ok-set_mapping.ensures.row
    ∙ ap (λ m. remapped (remapping_by c.args.new.now.array m []) c.args.owners.now.layouts)
    (sym (mapping-there c.args.tables.now c.args.new.now.map c.index-tables-new.result (omega (arith, c.if-new-tables.false)) c.index-tables-new.is))
