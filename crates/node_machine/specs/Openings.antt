-- Of a promise.
-- Nodes at the beginning of a run.
use Rattle.std.specs.Prelude.{ℕ, ℤ, List}
use Rattle.array_meaning.specs.Faults.{Fault}
use Rattle.machine_steps.specs.Agrees.{first_own, standing}
use Rattle.machine_steps.specs.Layout.{Layout}
use Rattle.machine_steps.specs.Node.{Node}
use Rattle.code_meaning.specs.ProgramText.{Text}
use Rattle.node_program.specs.Openings.{opening_machine}

-- one of so many nodes at the beginning
abbrev pub opening_node : ℕ → List Text → (slots : List ℤ) → List Layout → (starts : List ℤ) → ℕ → Node Text Fault
opening_node nodes code slots layouts starts id = standing nodes (opening_machine code slots layouts starts) 1 (first_own nodes) id
