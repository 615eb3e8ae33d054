use Rattle.std.proofs.Common.{◌≡◌, [], length, map, take, refl, subst, sym, ◌∙◌, ap, true}
use Rattle.std.specs.Prelude.{IfSome}
use Rattle.name_table.specs.declared.names.Entry.{Entry}
use Rattle.owner_tables.specs.Views.{OwnersView}
use Rattle.part_steps.specs.Agreement.{agree_on}
use Rattle.message_lines.specs.KeptLines.{IsKeptText}
use Rattle.message_lines.specs.TextLines.{text_lines}
use Rattle.message_lines.proofs.SameLines.{lines_same}
use Rattle.message_lines.proofs.kept_lines.KeptLines.find.Goals as goal

pub returns : goal.returns
returns c = λ code names t are there same moves.
    let kept = c.in_ok-kept.kept.now in
    let serves = c.if-not-serves.ensures refl in
    let is : IsKeptText code names c.args.at kept = subst (λ p. IfSome p (IsKeptText code names c.args.at)) (sym c.in_ok-kept.ensures.value) (are.all c.args.at) in
    c.deref.ensures.value ∙ is t moves there
    ∙ ap (λ (o : OwnersView). text_lines names moves t o.layouts kept.slots.items) serves.lies
    ∙ lines_same t.maps (record { nodes = t.nodes; names = map (λ (e : Entry). e.name) names; shapes = t.shapes; moves = moves; copies = []; copied = [] }) (take (length names) c.args.owners.now.layouts)
    kept.slots.items c.args.slots.now t.instruction (subst (λ i. agree_on kept.slots.items c.args.slots.now i ≡ true) (sym same) serves.agree)
