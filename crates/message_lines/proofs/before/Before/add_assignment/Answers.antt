use Rattle.std.proofs.Common.{◌≡◌, ℕ, List, ◌++◌, OnOk, refl, ◌∙◌, subst}
use Rattle.expression_rules.specs.declared.dims.Dim.{Dim}
use Rattle.code_meaning.specs.Parallel.{assigned_spot, assignment_tuples}
use Rattle.node_code.specs.Texts.{assignment, subs}
use Rattle.part_steps.specs.declared.who.Who.TheVariants.{Left}
use Rattle.part_steps.proofs.Instructions.{par-is}
use Rattle.tuple_values.specs.Statements.{IsStatement}
use Rattle.tuple_values.specs.Views.{statement as statement_of}
use Rattle.message_lines.specs.Before.{layouts_beside, setting_before}
use Rattle.message_lines.proofs.PartLaws.{rows-lines}
use Rattle.message_lines.proofs.before.Before.add_assignment.Goals as goal

pub returns : goal.returns
returns c =
    let b = c.args.self.now in
    let p = assignment c.args.p.now in
    let shapes = b.program.now.shapes.items in
    let layouts = layouts_beside b p.beside (subs c.args.p.now.over.items) in
    let w = statement_of c.in_ok-statement.statement in
    let owned = c.in_ok-rows.ensures.owners ∙ (λ i. record { layouts = layouts_beside b p.beside (subs (c.deref.ensures.value i)); nodes = b.owners.now.nodes }) in
    let is = subst (λ (ds : List (List Dim)). IsStatement w b.slots.now (assignment_tuples ds p) (assigned_spot ds p)) c.deref-2.ensures.value c.in_ok-statement.ensures in
    subst (λ (lines : List ℕ). OnOk c.add_part.result (c.add_part.new.text.items ≡ c.args.text.now.items ++ lines))
    (rows-lines c.in_ok-rows.rows (setting_before b) layouts b.names.now refl c.in_ok-rows.ensures.names owned c.in_ok-rows.ensures.copies c.in_ok-rows.ensures.copied Left w c.args.p.now.line _
    (par-is b.owners.now.nodes layouts w b.slots.now (assignment_tuples shapes p) (assigned_spot shapes p) is))
    c.add_part.ensures
