-- Of private clauses.
-- No public clause cites this file. The lines of what the machine passes.
use Rattle.std.specs.Prelude.{◌≡◌, ℕ, zero, suc, ◌++◌, ℤ, List, [], Option, Some, None}
use Rattle.std.specs.List.{slice_get}
use Rattle.name_table.specs.declared.names.Entry.{Entry}
use Rattle.array_meaning.specs.Faults.{Fault}
use Rattle.machine_steps.specs.Instr.{Remapping, Status, Running}
use Rattle.machine_steps.specs.Layout.{Layout}
use Rattle.machine_steps.specs.Machine.{Machine, step, steps}
use Rattle.code_meaning.specs.ProgramText.{Text, text_meaning}
use Rattle.message_lines.specs.TextLines.{text_lines}

-- where these names are declared, and `moves` says of a line which arrays its REDISTRIBUTE moves
module _ (es : List Entry) (moves : ℕ → List Remapping) where
  -- the lines of a text come at its first step
  abbrev pub lines_at : ℕ → Option Text → List Layout → List ℤ → List ℕ
  lines_at zero (Some t) layouts slots = text_lines es moves t layouts slots
  lines_at zero None layouts slots = []
  lines_at (suc k) t layouts slots = []

  abbrev pub lines_while : Status Fault → ℕ → Option Text → List Layout → List ℤ → List ℕ
  lines_while Running substep t layouts slots = lines_at substep t layouts slots
  lines_while status substep t layouts slots = []

  abbrev pub lines_now : Machine Text Fault → List ℕ
  lines_now m = lines_while m.control.status m.substep (slice_get m.code m.control.at) m.layouts m.control.slots

  -- the lines of so many steps
  abbrev pub lines_of_steps : ℕ → Machine Text Fault → List ℕ
  lines_of_steps zero m = []
  lines_of_steps (suc k) m = lines_now m ++ lines_of_steps k (step text_meaning m)

-- steps lead from one machine to the other, and their lines from the one text to the other
pub record IsListed (es : List Entry) (old new : Machine Text Fault) (before after : List ℕ) : Type 0 where
  pub many : ℕ
  pub ran : new ≡ steps text_meaning many old
  pub lines : (moves : ℕ → List Remapping) → after ≡ before ++ lines_of_steps es moves many old
