use Rattle.std.proofs.Common.{◌≡◌, ℕ, ◌==◌, List, ◌++◌, OnOk, length, map, refl, sym, ◌∙◌, ap, subst}
use Rattle.std.specs.List.{list_all}
use Rattle.machine_steps.specs.Layout.{sizes}
use Rattle.machine_steps.specs.Machine.{remapped}
use Rattle.code_meaning.specs.Instructions.{remappings}
use Rattle.node_code.specs.Texts.{new_mapping}
use Rattle.node_program.specs.Fits.{fits_row, shapes_of}
use Rattle.node_program.specs.Programs.{mappings_of}
use Rattle.message_lines.specs.Before.{names_layouts, setting_before}
use Rattle.message_lines.proofs.PartLaws.{rows-redistribution}
use Rattle.message_lines.proofs.RemapLaws.{fits-taken, remapped-sizes}
use Rattle.message_lines.proofs.before.Before.add_remap.Goals as goal

pub owners_after-requires-clause-tables : goal.owners_after-requires-clause-tables
owners_after-requires-clause-tables c =
    let b = c.args.self.now in
    let nodes : c.in_ok-rows.rows.owners.nodes ≡ b.program.now.nodes = ap (λ o. o.nodes) c.in_ok-rows.ensures.owners ∙ sym b.nodes in
    (λ i. list_all (λ t. t.nodes == nodes i) (c.deref.ensures.value i)) ∙ b.tables

pub owners_after-requires-clause-shapes : goal.owners_after-requires-clause-shapes
owners_after-requires-clause-shapes c =
    let b = c.args.self.now in
    let new = map new_mapping c.args.new.now in
    (λ i. list_all (fits_row (c.deref.ensures.value i) (shapes_of (c.in_ok-rows.ensures.owners i).layouts)) new)
    ∙ fits-taken b.program.now.tables.items (length b.names.now) b.owners.now.layouts new c.requires

pub add_redistribution-requires-clause-sizes : goal.add_redistribution-requires-clause-sizes
add_redistribution-requires-clause-sizes c =
    let b = c.args.self.now in
    let rows = c.in_ok-rows.rows.owners.layouts in
    let new = map new_mapping c.args.new.now in
    let after : c.in_ok-after.after.layouts ≡ remapped (remappings (mappings_of b.program.now.tables.items) new) rows =
    c.in_ok-after.ensures.layouts ∙ (λ i. remapped (remappings (mappings_of (c.deref.ensures.value i)) new) rows) in
    sym (ap sizes after ∙ remapped-sizes (remappings (mappings_of b.program.now.tables.items) new) rows)

pub returns : goal.returns
returns c =
    let b = c.args.self.now in
    let rows = c.in_ok-rows.rows in
    let new = map new_mapping c.args.new.now in
    let after : c.in_ok-after.after.layouts ≡ remapped (remappings (mappings_of b.program.now.tables.items) new) rows.owners.layouts =
    c.in_ok-after.ensures.layouts ∙ (λ i. remapped (remappings (mappings_of (c.deref.ensures.value i)) new) rows.owners.layouts) in
    subst (λ (lines : List ℕ). OnOk c.add_redistribution.result (c.add_redistribution.new.text.items ≡ c.args.text.now.items ++ lines))
    (rows-redistribution rows (setting_before b) (names_layouts b) b.names.now refl c.in_ok-rows.ensures.names c.in_ok-rows.ensures.owners c.in_ok-rows.ensures.copies c.in_ok-rows.ensures.copied c.args.line
    (remappings (mappings_of b.program.now.tables.items) new) c.in_ok-after.after.layouts after)
    c.add_redistribution.ensures
