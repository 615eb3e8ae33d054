use Rattle.std.proofs.Common.{◌∙◌, ap}
use Rattle.storage.specs.Storage.{read}
use Rattle.array_meaning.specs.Execution.{decimals}
use Rattle.array_meaning.specs.Sections.{extents}
use Rattle.machine_steps.specs.Machine.{element_values}
use Rattle.machine_steps.specs.Message.{first_read}
use Rattle.machine_steps.specs.Space.{space_count}
use Rattle.code_meaning.specs.Forms.{selections_in}
use Rattle.code_meaning.specs.Instructions.{section_spot}
use Rattle.node_code.specs.Texts.{subs}
use Rattle.tuple_values.specs.Views.{statement as statement_of}
use Rattle.whole_machine.proofs.machine.WholeMachine.section_bytes.Goals as goal

pub returns : goal.returns
returns c =
    let w = statement_of c.in_ok-w.w in
    let section = subs c.args.section.now in
    c.in_ok-bytes.ensures
    ∙ ap decimals (c.deref.ensures.value ∙ c.in_ok-values.ensures
    ∙ (λ i. element_values (read (c.rows.ensures i)) (λ t. first_read (c.in_ok-w.ensures.reads t i)) (c.in_ok-w.ensures.count i))
    ∙ (λ i. element_values (read c.args.self.now.rows) (section_spot c.args.shapes.now c.args.array section (c.slots.ensures i)) (space_count (extents (selections_in (c.slots.ensures i) section)))))
