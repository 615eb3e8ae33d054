use Rattle.std.proofs.Common.{◌∙◌, ◌+◌, ◌++◌, ◌∷◌, [], ap, sym, drop, map, option_map}
use Rattle.std.proofs.lemmas.List.{map-append}
use Rattle.expression_rules.proofs.Lists.{drop_item}
use Rattle.code_meaning.specs.Anchors.{anchor_value}
use Rattle.copy_anchors.specs.Anchors.{align_of}
use Rattle.node_code.specs.Texts.{anchor_sub}
use Rattle.slot_values.specs.Anchors.{anchor_from}
use Rattle.slot_values.proofs.AnchorSteps.{anchor_next}
use Rattle.slot_values.proofs.anchors.anchor_by.Goals as goal

pub loop-sub-preserved : goal.loop-sub-preserved
loop-sub-preserved c =
    let row = c.args.a.now.array in
    let axes = c.args.axes.now in
    let slots = c.args.slots.now in
    let l = c.loop-sub in
    let made = map align_of l.subscripts.items in
    let rest = map (anchor_value slots) (map anchor_sub (drop (l.sub-index + 1) c.deref-sub-items.result.now)) in
    l.invariant
    ∙ ap (λ xs. anchor_from row axes made l.axis (map (anchor_value slots) (map anchor_sub xs))) (drop_item _ l.sub-index _ c.loop-sub-test.true c.sub-item.is)
    ∙ anchor_next row axes slots made l.axis (anchor_sub c.sub-item.result) rest (align_of c.in-Some.subscript)
    (sym (ap (option_map align_of) (sym c.in-Some.is) ∙ c.in_ok-subscript.ensures))
    ∙ ap (λ axis. anchor_from row axes (made ++ align_of c.in-Some.subscript ∷ []) axis rest) (sym c.in_ok-axis.ensures)
    ∙ ap (λ ds. anchor_from row axes ds c.in_ok-axis.axis rest) (sym (ap (map align_of) c.in_ok-push-in-Some.ensures.items ∙ map-append align_of l.subscripts.items (c.in-Some.subscript ∷ [])))
