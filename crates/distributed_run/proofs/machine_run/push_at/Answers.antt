use Rattle.std.proofs.Common.{◌≡◌, ◌++◌, ℕ, All, List, IfSome, length, true, refl, sym, ap, ◌∙◌, subst}
use Rattle.std.proofs.lemmas.Option.{same_Some}
use Rattle.machine_steps.specs.Instr.{Remapping}
use Rattle.machine_steps.specs.Layout.{Layout}
use Rattle.code_meaning.specs.ProgramText.{Text, text}
use Rattle.node_code.specs.Texts.{instruction}
use Rattle.node_program.specs.Fits.{fits_rows, shapes_of}
use Rattle.node_program.specs.Programs.{mappings_of}
use Rattle.node_program.proofs.FitLaws.{all-mapped}
use Rattle.message_lines.specs.TextLines.{text_lines}
use Rattle.distributed_run.proofs.NextLines.{fresh-lines, same-nodes, text-here}
use Rattle.distributed_run.proofs.machine_run.push_at.Goals as goal

pub push_lines-requires-clause-nodes : goal.push_lines-requires-clause-nodes
push_lines-requires-clause-nodes c =
    let p = c.args.program.now in
    let o = c.owners-owners.result.now in
    same-nodes p.nodes (mappings_of p.tables.items) p.shapes.items p.code.items c.args.at o.nodes c.requires.at
    (subst (λ (code : List Text). All (λ (t : Text). t.nodes ≡ o.nodes) code) (sym c.requires.code) c.owners-owners.ensures.nodes)

pub push_lines-requires-clause-tables : goal.push_lines-requires-clause-tables
push_lines-requires-clause-tables c = c.requires.fits.nodes

pub push_lines-requires-clause-fits : goal.push_lines-requires-clause-fits
push_lines-requires-clause-fits c =
    let p = c.args.program.now in
    let i = c.index-i.result.now in
    subst (λ (layouts : List Layout). fits_rows (length p.shapes.items) p.tables.items (shapes_of layouts) (instruction i) ≡ true) (sym c.owners-owners.ensures.layouts)
    (all-mapped (fits_rows (length p.shapes.items) p.tables.items (shapes_of c.args.machine.now.layouts)) instruction p.code.items c.args.at i c.requires.at c.index-i.ensures
    c.requires.fits.code)

pub returns-in-Some-clause-lines : goal.returns-in-Some-clause-lines
returns-in-Some-clause-lines c = λ t moves there.
    let p = c.args.program.now in
    let m = c.args.machine.now in
    let es = c.args.names.now in
    let i = c.index-i.result.now in
    let here = text-here p.nodes (mappings_of p.tables.items) p.shapes.items m.code p.code.items c.args.at i (sym c.requires.code) c.requires.at c.index-i.ensures in
    let is : t ≡ text p.nodes (mappings_of p.tables.items) p.shapes.items (instruction i) = same_Some _ _ (sym there ∙ here) in
    let found = subst (λ r. IfSome r (λ lines. (moves : ℕ → List Remapping) → lines.now ≡ text_lines es moves t c.owners-owners.result.now.layouts c.slots-slots.result.now)) c.in-Some.is
    (c.find.ensures m.code es t c.requires.kept there (ap (λ (x : Text). x.instruction) is)) in
    c.in_ok-extend_from_slice.ensures.items
    ∙ ap (λ l. c.args.text.now.items ++ l) (found moves ∙ (λ j. text_lines es moves t (c.owners-owners.ensures.layouts j) (c.slots-slots.ensures j)))

pub returns-clause-lines : goal.returns-clause-lines
returns-clause-lines c = λ t moves there.
    let p = c.args.program.now in
    let m = c.args.machine.now in
    let i = c.index-i.result.now in
    let here = text-here p.nodes (mappings_of p.tables.items) p.shapes.items m.code p.code.items c.args.at i (sym c.requires.code) c.requires.at c.index-i.ensures in
    c.in_ok-extend_from_slice-2.ensures.items
    ∙ ap (λ l. c.args.text.now.items ++ l) (c.deref.ensures.value
    ∙ fresh-lines c.args.names.now moves t p.nodes (mappings_of p.tables.items) p.shapes.items (instruction i) c.owners-owners.result.now.layouts m.layouts
    c.slots-slots.result.now m.control.slots c.new-lines.result.items c.push_lines.new.text.items (same_Some _ _ (sym there ∙ here)) c.new-lines.ensures.items
    (c.in_ok-push_lines.ensures moves) c.owners-owners.ensures.layouts c.slots-slots.ensures)

pub returns-clause-kept : goal.returns-clause-kept
returns-clause-kept c =
    let p = c.args.program.now in
    let m = c.args.machine.now in
    let i = c.index-i.result.now in
    let here = text-here p.nodes (mappings_of p.tables.items) p.shapes.items m.code p.code.items c.args.at i (sym c.requires.code) c.requires.at c.index-i.ensures in
    c.keep.ensures m.code c.args.names.now c.requires.kept (λ t moves there.
    fresh-lines c.args.names.now moves t p.nodes (mappings_of p.tables.items) p.shapes.items (instruction i) c.owners-owners.result.now.layouts c.owners-owners.result.now.layouts
    c.slots-slots.result.now c.slots-slots.result.now c.new-lines.result.items c.push_lines.new.text.items (same_Some _ _ (sym there ∙ here)) c.new-lines.ensures.items
    (c.in_ok-push_lines.ensures moves) refl refl)
