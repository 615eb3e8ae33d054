use Rattle.std.proofs.Common.{◌≡◌, IfOk, Option, option_copied, option_map, ◌∙◌, subst}
use Rattle.code_meaning.specs.Anchors.{anchor_in}
use Rattle.code_meaning.specs.Beside.{Anchor}
use Rattle.node_code.specs.Texts.{flat_anchor, subs}
use Rattle.message_lines.specs.Before.{copy_layouts}
use Rattle.message_lines.proofs.before.Before.rows_beside.Goals as goal

pub returns-clause-owners : goal.returns-clause-owners
returns-clause-owners c =
    let b = c.args.self.now in
    let over = subs c.args.over.now in
    let is : option_copied c.as_ref.result ≡ anchor_in b.slots.now over (option_map flat_anchor c.args.beside.now) = c.as_ref.ensures.value ∙ c.in_ok-anchor.ensures in
    subst (λ (a : Option Anchor). IfOk c.rows.result (λ r. r.owners ≡ record { layouts = copy_layouts b a over; nodes = b.owners.now.nodes })) is c.rows.ensures.owners
