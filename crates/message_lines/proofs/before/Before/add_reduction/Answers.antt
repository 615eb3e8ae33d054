use Rattle.std.proofs.Common.{◌≡◌, ℕ, List, ◌++◌, None, OnOk, refl, ◌∙◌, subst}
use Rattle.expression_rules.specs.declared.dims.Dim.{Dim}
use Rattle.code_meaning.specs.Parallel.{reduction_tuples}
use Rattle.node_code.specs.Texts.{evaluation, subs}
use Rattle.part_steps.specs.declared.who.Who.TheVariants.{First}
use Rattle.part_steps.proofs.Instructions.{reduce-is}
use Rattle.tuple_values.specs.Statements.{IsStatement, no_left}
use Rattle.tuple_values.specs.Views.{statement as statement_of}
use Rattle.message_lines.specs.Before.{copy_layouts, setting_before}
use Rattle.message_lines.proofs.PartLaws.{rows-lines}
use Rattle.message_lines.proofs.before.Before.add_reduction.Goals as goal

pub returns : goal.returns
returns c =
    let b = c.args.self.now in
    let p = evaluation c.args.p.now in
    let shapes = b.program.now.shapes.items in
    let layouts = copy_layouts b None (subs c.args.p.now.over.items) in
    let w = statement_of c.in_ok-statement.statement in
    let owned = c.in_ok-rows.ensures.owners ∙ (λ i. record { layouts = copy_layouts b None (subs (c.deref.ensures.value i)); nodes = b.owners.now.nodes }) in
    let is = subst (λ (ds : List (List Dim)). IsStatement w b.slots.now (reduction_tuples ds p c.args.reduction.now.made) (no_left)) c.deref-2.ensures.value c.in_ok-statement.ensures in
    subst (λ (lines : List ℕ). OnOk c.add_part.result (c.add_part.new.text.items ≡ c.args.text.now.items ++ lines))
    (rows-lines c.in_ok-rows.rows (setting_before b) layouts b.names.now refl c.in_ok-rows.ensures.names owned c.in_ok-rows.ensures.copies c.in_ok-rows.ensures.copied First w c.args.p.now.line _
    (reduce-is b.owners.now.nodes layouts w b.slots.now (reduction_tuples shapes p c.args.reduction.now.made) (no_left) is))
    c.add_part.ensures
