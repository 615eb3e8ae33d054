use Rattle.std.proofs.Common.{◌≡◌, ℕ, List, [], ◌∷◌, ◌++◌, IfOk, option_copied, ◌∙◌, subst}
use Rattle.array_meaning.specs.Sections.{extents}
use Rattle.machine_steps.specs.CopyLayout.{copy_extents}
use Rattle.code_meaning.specs.Beside.{aligned_layout_of}
use Rattle.code_meaning.specs.Forms.{selections_in}
use Rattle.node_code.specs.Texts.{subs}
use Rattle.message_lines.specs.Before.{names_layouts}
use Rattle.message_lines.proofs.before.Before.rows.Goals as goal

pub returns-clause-owners : goal.returns-clause-owners
returns-clause-owners c =
    let b = c.args.self.now in
    let nodes = b.owners.now.nodes in
    let layouts = names_layouts b in
    let is : c.deref.result.now ≡ copy_extents (extents (selections_in b.slots.now (subs c.args.over.now))) = c.deref.ensures.value ∙ c.in_ok-extents.ensures.value in
    subst (λ (ns : List ℕ). IfOk c.rows_with_copy.result (λ r. r.owners ≡ record { layouts = layouts ++ aligned_layout_of nodes layouts (option_copied c.args.anchor) ns ∷ []; nodes = nodes }))
    is c.rows_with_copy.ensures.owners
