use Rattle.std.proofs.Common.{◌≡◌, ℕ, List, ◌++◌, map, take, ap, ◌∙◌, append_assoc}
use Rattle.machine_steps.specs.Layout.{Layout}
use Rattle.message_text.specs.InstructionLines.{left_rows}
use Rattle.node_code.specs.Texts.{nest_left, when}
use Rattle.owner_tables.specs.Views.{OwnersView, TableView}
use Rattle.message_lines.specs.Grown.{grown}
use Rattle.message_lines.proofs.Growing.{grown-on}
use Rattle.message_lines.proofs.rows.owners_of_nest.Goals as goal

pub returns : goal.returns
returns c =
    let C : Layout = c.in_ok-copy.copy.layout in
    let L : List Layout = take c.args.count c.args.owners.now.layouts in
    let W : List ℕ = map (λ w. w.copy) (map when c.args.p.now.whens.items) in
    let A : List ℕ = c.args.p.now.copies.items in
    let E : List ℕ = left_rows (nest_left c.args.p.now.left) in
    let layouts : c.grow_to_left.new.rows.layouts ≡ grown C (grown C (grown C L W) A) E =
    ap (λ (o : OwnersView). o.layouts) c.in_ok-grow_to_left.ensures
    ∙ ap (λ ls. grown C ls E) (ap (λ (o : OwnersView). o.layouts) c.in_ok-grow_to_all.ensures
    ∙ (λ i. grown C (c.in_ok-grow_to_whens.ensures i).layouts (c.deref-2.ensures.value i))
    ∙ (λ i. grown C (grown C (c.in_ok-rows.ensures i).layouts (map (λ w. w.copy) (map when (c.deref.ensures.value i)))) A)) in
    let nodes = ap (λ (o : OwnersView). o.nodes) c.in_ok-grow_to_left.ensures ∙ ap (λ (o : OwnersView). o.nodes) c.in_ok-grow_to_all.ensures
    ∙ ap (λ (o : OwnersView). o.nodes) c.in_ok-grow_to_whens.ensures ∙ ap (λ (o : OwnersView). o.nodes) c.in_ok-rows.ensures in
    let all = layouts ∙ ap (λ ls. grown C ls E) (grown-on C L W A) ∙ grown-on C L (W ++ A) E ∙ ap (grown C L) (append_assoc W A E)
    ∙ ap (λ (t : TableView). grown t.layout L (W ++ (A ++ E))) c.in_ok-copy.ensures in
    λ i. record { layouts = all i; nodes = nodes i }
