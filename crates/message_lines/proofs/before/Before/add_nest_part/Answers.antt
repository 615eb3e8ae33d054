use Rattle.std.proofs.Common.{◌≡◌, ℕ, List, ◌++◌, OnOk, refl, subst}
use Rattle.expression_rules.specs.declared.dims.Dim.{Dim}
use Rattle.message_text.specs.Parts.{with_copied}
use Rattle.code_meaning.specs.NestStatements.{nest_spot, nest_tuples}
use Rattle.node_code.specs.Texts.{nest_statement}
use Rattle.part_steps.specs.declared.who.Who.TheVariants.{Left}
use Rattle.part_steps.proofs.Instructions.{par-is}
use Rattle.tuple_values.specs.Statements.{IsStatement}
use Rattle.tuple_values.specs.Views.{statement as statement_of}
use Rattle.message_lines.specs.Before.{nest_layouts, setting_before}
use Rattle.message_lines.proofs.PartLaws.{rows-lines}
use Rattle.message_lines.proofs.before.Before.add_nest_part.Goals as goal

pub returns : goal.returns
returns c =
    let b = c.args.self.now in
    let p = nest_statement c.args.p.now in
    let shapes = b.program.now.shapes.items in
    let nodes = b.owners.now.nodes in
    let layouts = nest_layouts b p in
    let w = statement_of c.in_ok-statement.statement in
    let is = subst (λ (ds : List (List Dim)). IsStatement w b.slots.now (nest_tuples ds p) (nest_spot ds p)) c.deref.ensures.value c.in_ok-statement.ensures in
    subst (λ (lines : List ℕ). OnOk c.add_part.result (c.add_part.new.text.items ≡ c.args.text.now.items ++ lines))
    (rows-lines c.in_ok-rows.rows (with_copied (setting_before b) c.args.p.now.copies.items c.args.p.now.names.items) layouts b.names.now refl c.in_ok-rows.ensures.names c.in_ok-rows.ensures.owners
    c.in_ok-rows.ensures.copies c.in_ok-rows.ensures.copied Left w c.args.p.now.line _ (par-is nodes layouts w b.slots.now (nest_tuples shapes p) (nest_spot shapes p) is))
    c.add_part.ensures
