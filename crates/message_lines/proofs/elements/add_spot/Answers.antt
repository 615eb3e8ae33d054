use Rattle.std.proofs.Common.{◌≡◌, ℕ, ◌<◌, List, ◌++◌, OnOk, slice_get, sym, ◌∙◌, ap, append_assoc, subst}
use Rattle.std.proofs.lemmas.List.{append-nil}
use Rattle.hpf_base.specs.declared.index.Shape.{Shape}
use Rattle.hpf_base.specs.ElementOrder.{extents_of, product}
use Rattle.machine_steps.specs.Layout.{element_index}
use Rattle.message_text.specs.MessageText.{row_name, subscripts_text}
use Rattle.run_report.specs.TupleText.{tuple_text}
use Rattle.message_lines.specs.Settings.{setting_of}
use Rattle.message_lines.proofs.RowLaws.{row-inside}
use Rattle.message_lines.proofs.elements.add_spot.Goals as goal

pub add_subscripts-requires-clause-at : goal.add_subscripts-requires-clause-at
add_subscripts-requires-clause-at c =
    let spot = c.args.spot in
    let inside = row-inside c.args.rows.now.owners.layouts spot.row spot.at c.in-Some.table.now.layout c.in-Some.ensures.layout c.requires in
    subst (λ (s : Shape). spot.at < product (extents_of s)) (sym c.shape.ensures.value) inside

pub returns-in-Some : goal.returns-in-Some
returns-in-Some c =
    let text = c.args.text.now.items in
    let spot = c.args.spot in
    let name = row_name (setting_of c.args.rows.now) spot.row in
    let named = c.in_ok-add_row_name.ensures in
    let told = ap (λ s. tuple_text (element_index s spot.at)) c.shape.ensures.value ∙ ap (λ l. subscripts_text l spot.at) c.in-Some.ensures.layout in
    subst (λ (t : List ℕ). OnOk c.add_subscripts.result (c.add_subscripts.new.text.items ≡ t))
    ((λ i. named i ++ told i) ∙ append_assoc text name (subscripts_text (slice_get c.args.rows.now.owners.layouts spot.row) spot.at)) c.add_subscripts.ensures

pub returns-in-None : goal.returns-in-None
returns-in-None c =
    let text = c.args.text.now.items in
    let spot = c.args.spot in
    let name = row_name (setting_of c.args.rows.now) spot.row in
    c.in_ok-add_row_name.ensures ∙ ap (λ n. text ++ n) (sym (append-nil name))
    ∙ ap (λ l. text ++ (name ++ subscripts_text l spot.at)) c.in-None.ensures.layout
