use Rattle.std.proofs.Common.{◌≡◌, sym, ◌∙◌, ap}
use Rattle.std.proofs.lemmas.Option.{same_Some}
use Rattle.machine_steps.specs.Layout.{owned_by}
use Rattle.machine_steps.specs.SameLayouts.{is_same_layout}
use Rattle.owner_tables.proofs.SameLayouts.{layout_itself, same_layouts}
use Rattle.comm_sets.proofs.Marking.{owned-get}
use Rattle.comm_sets.proofs.marks.is_unchanged.Goals as goal

pub returns-in-Some-table-clause-same : goal.returns-in-Some-table-clause-same
returns-in-Some-table-clause-same c h =
    let one = c.in-Some.one.now.layout in
    let other = c.in-Some-table.other.now.layout in
    sym (owned-get c.args.before.now.layouts c.args.row one c.in-Some.ensures.layout) ∙ ap owned_by (same_layouts one other (sym c.lies_as.ensures ∙ h))
    ∙ owned-get c.args.after.now.layouts c.args.row other c.in-Some-table.ensures.layout

pub returns-in-Some-table-clause-all : goal.returns-in-Some-table-clause-all
returns-in-Some-table-clause-all c layout before after =
    let one = c.in-Some.one.now.layout in
    let other = c.in-Some-table.other.now.layout in
    let here : one ≡ layout = same_Some one layout (c.in-Some.ensures.layout ∙ before) in
    let there : other ≡ layout = same_Some other layout (c.in-Some-table.ensures.layout ∙ after) in
    c.lies_as.ensures ∙ (λ i. is_same_layout (here i) (there i)) ∙ layout_itself layout
