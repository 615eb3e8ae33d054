-- Of a promise.
-- Lines that are kept of the instructions of a program.
use Rattle.std.specs.Prelude.{◌≡◌, ℕ, ℤ, List, IfSome, Some, true}
use Rattle.std.specs.BTreeMap.{get}
use Rattle.std.specs.List.{slice_get}
use Rattle.std.specs.Ordering.{nat_cmp}
use Rattle.name_table.specs.declared.names.Entry.{Entry}
use Rattle.machine_steps.specs.Instr.{Remapping}
use Rattle.node_code.specs.Instructions.{Instruction}
use Rattle.code_meaning.specs.ProgramText.{Text}
use Rattle.owner_tables.specs.Views.{OwnersView}
use Rattle.part_steps.specs.Agreement.{agree_on}
use Rattle.message_lines.specs.TextLines.{text_lines}
use Rattle.message_lines.specs.declared.kept_lines.KeptLines.{KeptLines}
use Rattle.message_lines.specs.declared.kept_lines.KeptText.{KeptText}

-- of the instruction at this place, where these names are declared: its lines, by the slots and the layouts that are kept with them
abbrev pub IsKeptText : List Text → List Entry → ℕ → KeptText → Type 0
IsKeptText code names at kept = (t : Text) (moves : ℕ → List Remapping) → slice_get code at ≡ Some t
    → kept.lines.items ≡ text_lines names moves t kept.owners.layouts kept.slots.items

-- by places
pub record AreKeptLines (code : List Text) (names : List Entry) (lines : KeptLines) : Type 0 where
  pub all : (at : ℕ) → IfSome (get nat_cmp lines.texts at) (IsKeptText code names at)

-- its slots agree with these on all that the instruction mentions, and its layouts are these
pub record Serves (kept : KeptText) (i : Instruction) (slots : List ℤ) (owners : OwnersView) : Type 0 where
  pub agree : agree_on kept.slots.items slots i ≡ true
  pub lies : kept.owners ≡ owners
