-- Of a promise.
-- The lines of a text of a program's code.
use Rattle.std.specs.Prelude.{ℕ, ℤ, List, [], length, map, take}
use Rattle.name_table.specs.declared.names.Entry.{Entry}
use Rattle.machine_steps.specs.Instr.{Remapping}
use Rattle.machine_steps.specs.Layout.{Layout}
use Rattle.code_meaning.specs.ProgramText.{Text}
use Rattle.message_text.specs.InstructionLines.{instruction_lines}

-- where these names are declared, `moves` says of a line which arrays its REDISTRIBUTE moves, and the rows lie so, by the slots
abbrev pub text_lines : List Entry → (ℕ → List Remapping) → Text → List Layout → List ℤ → List ℕ
text_lines es moves t layouts slots =
    instruction_lines t.maps (record { nodes = t.nodes; names = map (λ (e : Entry). e.name) es; shapes = t.shapes; moves = moves; copies = []; copied = [] }) (take (length es) layouts) t.instruction slots
