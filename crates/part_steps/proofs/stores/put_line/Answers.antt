use Rattle.std.proofs.Common.{◌<◌, ◌≤◌, length, [], ap, ◌∙◌, rules}
use Rattle.std.specs.Prelude.{slice_set}
use Rattle.std.proofs.lemmas.List.{get_or_default}
use Rattle.owner_tables.specs.Lines.{with_line}
use Rattle.part_steps.proofs.StripLaws.{no-row-stored, row-stored}
use Rattle.part_steps.proofs.stores.put_line.Goals as goal

pub returns-then-first-len : goal.returns-then-first-len
returns-then-first-len c =
    let inside : c.args.first.row < length c.args.pieces.now.items = search rules in
    ap (slice_set c.args.pieces.now.items c.args.first.row)
    (c.set_line.ensures ∙ ap (λ row. with_line row c.args.first.at c.args.step c.args.values.now)
    (c.index_mut.ensures.value ∙ get_or_default c.args.pieces.now.items c.args.first.row c.index_mut.result.now [] inside))
    ∙ row-stored c.args.first.row c.args.step c.args.values.now c.args.first.at c.args.pieces.now.items inside

pub returns-else-first-len : goal.returns-else-first-len
returns-else-first-len c =
    let outside : length c.args.pieces.now.items ≤ c.args.first.row = search rules in
    no-row-stored c.args.first.row c.args.step c.args.values.now c.args.first.at c.args.pieces.now.items outside
