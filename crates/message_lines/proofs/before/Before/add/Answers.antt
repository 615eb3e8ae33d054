use Rattle.std.proofs.Common.{◌≡◌, ◌++◌, OnOk, sym, subst}
use Rattle.message_text.specs.InstructionLines.{instruction_lines}
use Rattle.node_code.specs.Texts.{instruction}
use Rattle.node_code.specs.declared.instruction.Instruction.{Instruction as HeldInstruction}
use Rattle.node_program.specs.Programs.{mappings_of}
use Rattle.message_lines.specs.Before.{names_layouts, setting_before}
use Rattle.message_lines.proofs.before.Before.add.Goals as goal

pub returns-in-ParCopy : goal.returns-in-ParCopy
returns-in-ParCopy c =
    let b = c.args.self.now in
    subst (λ (i : HeldInstruction). OnOk c.add_evaluation.result (c.add_evaluation.new.text.items ≡ c.args.text.now.items
    ++ instruction_lines (mappings_of b.program.now.tables.items) (setting_before b) (names_layouts b) (instruction i) b.slots.now))
    (sym c.in-ParCopy.is) c.add_evaluation.ensures

pub returns-in-ParForallCopy : goal.returns-in-ParForallCopy
returns-in-ParForallCopy c =
    let b = c.args.self.now in
    subst (λ (i : HeldInstruction). OnOk c.add_forall_mask.result (c.add_forall_mask.new.text.items ≡ c.args.text.now.items
    ++ instruction_lines (mappings_of b.program.now.tables.items) (setting_before b) (names_layouts b) (instruction i) b.slots.now))
    (sym c.in-ParForallCopy.is) c.add_forall_mask.ensures

pub returns-in-Reduce : goal.returns-in-Reduce
returns-in-Reduce c =
    let b = c.args.self.now in
    subst (λ (i : HeldInstruction). OnOk c.add_reduction.result (c.add_reduction.new.text.items ≡ c.args.text.now.items
    ++ instruction_lines (mappings_of b.program.now.tables.items) (setting_before b) (names_layouts b) (instruction i) b.slots.now))
    (sym c.in-Reduce.is) c.add_reduction.ensures
