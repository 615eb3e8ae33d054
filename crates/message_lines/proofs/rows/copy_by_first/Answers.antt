use Rattle.std.proofs.Common.{◌≡◌, Option, IfOk, option_copied, ◌∙◌, ap, subst}
use Rattle.machine_steps.specs.Layout.{Layout}
use Rattle.code_meaning.specs.Beside.{Anchor, aligned_layout_of}
use Rattle.message_lines.proofs.RowLaws.{lies-by-first}
use Rattle.message_lines.proofs.rows.copy_by_first.Goals as goal

pub returns : goal.returns
returns c =
    let nodes = c.args.owners.now.nodes in
    let layouts = c.args.owners.now.layouts in
    let ns = c.args.extents.now in
    subst (λ (l : Layout). IfOk c.copy_table.result (λ t. t ≡ record { layout = l; nodes = nodes }))
    (ap (λ (a : Option Anchor). aligned_layout_of nodes layouts a ns) c.among_first.ensures ∙ lies-by-first nodes c.args.count layouts (option_copied c.args.anchor) ns)
    c.copy_table.ensures
