-- Of private clauses.
-- No public clause cites this file. What instructions of a program mean.
use Rattle.std.specs.Prelude.{◌≡◌, ◌==◌, ℕ, List, Some, true}
use Rattle.std.specs.List.{list_all, slice_get}
use Rattle.array_meaning.specs.Faults.{Fault}
use Rattle.machine_steps.specs.Instr.{Instr}
use Rattle.code_meaning.specs.Instructions.{meaning_of}
use Rattle.code_meaning.specs.ProgramText.{Text, table_on}
use Rattle.node_code.specs.Texts.{instruction}
use Rattle.node_code.specs.declared.instruction.Instruction.{Instruction}
use Rattle.owner_tables.specs.Views.{TableView}
use Rattle.node_program.specs.Programs.{mappings_of}
use Rattle.node_program.specs.declared.program.NodeProgram.{NodeProgram}

-- what an instruction of a program does
abbrev pub instr_of : NodeProgram → Instruction → Instr Fault
instr_of p i = meaning_of (table_on p.nodes (mappings_of p.tables.items) p.shapes.items) (instruction i)

-- at the place of the code stands a text for so many nodes
pub record IsFor (code : List Text) (at nodes : ℕ) : Type 0 where
  pub text : Text
  pub is : slice_get code at ≡ Some text
  pub on : text.nodes ≡ nodes

-- these tables are for as many nodes as the text at the place of the code
pub record AreFor (code : List Text) (at : ℕ) (tables : List TableView) : Type 0 where
  pub nodes : ℕ
  pub text : IsFor code at nodes
  pub each : list_all (λ t. t.nodes == nodes) tables ≡ true
