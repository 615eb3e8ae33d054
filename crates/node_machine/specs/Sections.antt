-- Of private clauses.
-- No public clause cites this file. Sections that are printed.
use Rattle.std.specs.Prelude.{◌≡◌, ℕ, ℤ, List, [], ◌∷◌}
use Rattle.array_meaning.specs.Execution.{decimals}
use Rattle.array_meaning.specs.Faults.{Fault}
use Rattle.machine_steps.specs.Instr.{Instr}
use Rattle.machine_steps.specs.Machine.{element_values}
use Rattle.machine_steps.specs.Message.{gather_part}
use Rattle.machine_steps.specs.Node.{Node, gathered}
use Rattle.code_meaning.specs.ProgramText.{Text}
use Rattle.tuple_values.specs.Statements.{Statement, tuple_count, tuple_reads}
use Rattle.node_machine.specs.Parts.{IsOpening}
use Rattle.node_machine.specs.Prints.{PrintsSection}
use Rattle.node_machine.specs.declared.parts.Opening.{Opening}

-- they are what this statement reads
pub record IsSection (i : Instr Fault) (slots : List ℤ) (k : ℕ) (w : Statement) : Type 0 where
  pub prints : PrintsSection i k
  pub tuples : tuple_count w ≡ prints.count slots
  pub reads : (t : ℕ) → tuple_reads w t ≡ prints.element slots t ∷ []

-- what opens their phase
pub record IsSectionOpening (i : Instr Fault) (a : Node Text Fault) (o : Opening) : Type 0 where
  pub prints : PrintsSection i a.substep
  pub opening : IsOpening (gather_part prints.count prints.element a.control.slots) a o

-- their bytes after it, which node 0 has
pub record IsSectionBytes (i : Instr Fault) (a : Node Text Fault) (b : List ℕ) : Type 0 where
  pub prints : PrintsSection i a.substep
  pub bytes : a.id ≡ 0 → b
      ≡ decimals (element_values (gathered a.nodes (gather_part prints.count prints.element a.control.slots) a) (prints.element a.control.slots) (prints.count a.control.slots))
