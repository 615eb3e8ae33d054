use Rattle.std.proofs.Common.{◌≡◌, ◌+◌, ◌≤◌, ◌++◌, ◌∷◌, [], length, refl, sym, ap, ◌∙◌, arith, rules}
use Rattle.std.proofs.lemmas.List.{length-append}
use Rattle.owner_tables.specs.Views.{OwnersView, TableView}
use Rattle.message_lines.specs.Grown.{up_to}
use Rattle.message_lines.proofs.Growing.{one-more, none-more}
use Rattle.message_lines.proofs.rows.grow_to.Goals as goal

pub loop-rows-init : goal.loop-rows-init
loop-rows-init c = (refl, refl)

pub push-requires : goal.push-requires
push-requires c = ap (λ (t : TableView). t.nodes) c.in_ok-shared.ensures ∙ sym c.requires.nodes ∙ sym c.loop-rows.invariant.1

pub loop-rows-smaller : goal.loop-rows-smaller
loop-rows-smaller c =
    let layouts = c.loop-rows.rows.layouts in
    let now : length c.push.new.self.layouts ≡ length layouts + 1 = ap (λ (o : OwnersView). length o.layouts) c.in_ok-push.ensures.row ∙ length-append layouts (c.in_ok-shared.field-0.layout ∷ []) in
    let le : length layouts ≤ c.args.row = search rules in
    omega (arith, now, le)

pub loop-rows-preserved : goal.loop-rows-preserved
loop-rows-preserved c =
    let layouts = c.loop-rows.rows.layouts in
    let copy = c.args.copy.now.layout in
    let le : length layouts ≤ c.args.row = search rules in
    let now : c.push.new.self.layouts ≡ layouts ++ copy ∷ [] =
    ap (λ (o : OwnersView). o.layouts) c.in_ok-push.ensures.row ∙ ap (λ (t : TableView). layouts ++ t.layout ∷ []) c.in_ok-shared.ensures in
    (ap (λ ls. up_to copy ls c.args.row) now ∙ one-more copy layouts c.args.row le ∙ c.loop-rows.invariant.0, ap (λ (o : OwnersView). o.nodes) c.in_ok-push.ensures.row ∙ c.loop-rows.invariant.1)

pub returns : goal.returns
returns c =
    let layouts = c.loop-rows.rows.layouts in
    let copy = c.args.copy.now.layout in
    let le : c.args.row + 1 ≤ length layouts = search rules in
    λ i. record { layouts = (none-more copy layouts c.args.row le ∙ c.loop-rows.invariant.0) i; nodes = c.loop-rows.invariant.1 i }
