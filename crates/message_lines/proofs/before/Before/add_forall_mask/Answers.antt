use Rattle.std.proofs.Common.{◌≡◌, ℕ, List, ◌++◌, OnOk, refl, ◌∙◌, subst}
use Rattle.expression_rules.specs.declared.dims.Dim.{Dim}
use Rattle.code_meaning.specs.Parallel.{copy_spot, forall_mask_tuples}
use Rattle.node_code.specs.Texts.{evaluation, subs}
use Rattle.part_steps.specs.declared.who.Who.TheVariants.{Left}
use Rattle.part_steps.proofs.Instructions.{par-is}
use Rattle.tuple_values.specs.Statements.{IsStatement}
use Rattle.tuple_values.specs.Views.{statement as statement_of}
use Rattle.message_lines.specs.Before.{layouts_beside, setting_before}
use Rattle.message_lines.proofs.PartLaws.{rows-lines}
use Rattle.message_lines.proofs.before.Before.add_forall_mask.Goals as goal

pub returns : goal.returns
returns c =
    let b = c.args.self.now in
    let p = evaluation c.args.p.now in
    let shapes = b.program.now.shapes.items in
    let layouts = layouts_beside b p.beside (subs c.args.p.now.over.items) in
    let w = statement_of c.in_ok-statement.statement in
    let owned = c.in_ok-rows.ensures.owners ∙ (λ i. record { layouts = layouts_beside b p.beside (subs (c.deref.ensures.value i)); nodes = b.owners.now.nodes }) in
    let is = subst (λ (ds : List (List Dim)). IsStatement w b.slots.now (forall_mask_tuples ds p) (copy_spot c.args.copy)) c.deref-2.ensures.value c.in_ok-statement.ensures in
    subst (λ (lines : List ℕ). OnOk c.add_part.result (c.add_part.new.text.items ≡ c.args.text.now.items ++ lines))
    (rows-lines c.in_ok-rows.rows (setting_before b) layouts b.names.now refl c.in_ok-rows.ensures.names owned c.in_ok-rows.ensures.copies c.in_ok-rows.ensures.copied Left w c.args.p.now.line _
    (par-is b.owners.now.nodes layouts w b.slots.now (forall_mask_tuples shapes p) (copy_spot c.args.copy) is))
    c.add_part.ensures
