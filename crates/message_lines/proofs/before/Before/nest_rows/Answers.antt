use Rattle.std.proofs.Common.{◌≡◌, List, IfOk, option_copied, ◌∙◌, subst}
use Rattle.array_meaning.specs.Sections.{extents}
use Rattle.machine_steps.specs.CopyLayout.{copy_extents}
use Rattle.machine_steps.specs.Layout.{Layout}
use Rattle.message_text.specs.InstructionLines.{copy_rows}
use Rattle.code_meaning.specs.Anchors.{anchor_in}
use Rattle.code_meaning.specs.Beside.{aligned_layout_of}
use Rattle.code_meaning.specs.Forms.{selections_in}
use Rattle.node_code.specs.Texts.{nest_statement, subs}
use Rattle.message_lines.specs.Before.{names_layouts}
use Rattle.message_lines.specs.Grown.{grown}
use Rattle.message_lines.proofs.Growing.{grown-is}
use Rattle.message_lines.proofs.before.Before.nest_rows.Goals as goal

pub returns-clause-owners : goal.returns-clause-owners
returns-clause-owners c =
    let b = c.args.self.now in
    let p = nest_statement c.args.p.now in
    let nodes = b.owners.now.nodes in
    let slots = b.slots.now in
    let layouts = names_layouts b in
    let ns = copy_extents (extents (selections_in slots p.over)) in
    let sizes : c.deref-3.result.now ≡ ns = c.deref-3.ensures.value ∙ c.in_ok-extents.ensures.value ∙ (λ i. copy_extents (extents (selections_in slots (subs (c.deref.ensures.value i))))) in
    let beside : option_copied c.as_ref.result ≡ anchor_in slots p.over p.beside =
    c.as_ref.ensures.value ∙ c.in_ok-anchor.ensures ∙ (λ i. anchor_in slots (subs (c.deref-2.ensures.value i)) p.beside) in
    subst (λ (ls : List Layout). IfOk c.rows_of_nest.result (λ r. r.owners ≡ record { layouts = ls; nodes = nodes }))
    ((λ i. grown (aligned_layout_of nodes layouts (beside i) (sizes i)) layouts (copy_rows p)) ∙ grown-is (aligned_layout_of nodes layouts (anchor_in slots p.over p.beside) ns) layouts (copy_rows p))
    c.rows_of_nest.ensures.owners
