-- Of a promise.
-- Instructions that were run one after another, none of which touches an array.
use Rattle.std.specs.Prelude.{◌≡◌, ℕ, zero, suc, true, List, Some}
use Rattle.std.specs.List.{slice_get}
use Rattle.expression_rules.specs.declared.dims.Dim.{Dim}
use Rattle.array_meaning.specs.Faults.{Fault}
use Rattle.machine_steps.specs.Instr.{Control, Running}
use Rattle.node_code.specs.Instructions.{Instruction}
use Rattle.slot_values.specs.LocalInstructions.{is_local, local_control}

-- the instruction at the place of a run was run: it touches no array, whose shapes then say nothing, and the run goes on after it
pub record IsRunOne (code : List Instruction) (old new : Control Fault) : Type 0 where
  pub instruction : Instruction
  pub at : slice_get code old.at ≡ Some instruction
  pub local : is_local instruction ≡ true
  pub does : (shapes : List (List Dim)) → new ≡ local_control shapes instruction old
  pub before : old.status ≡ Running
  pub after : new.status ≡ Running

-- so many were run, one after another
abbrev pub AreRun : List Instruction → ℕ → (old new : Control Fault) → Type 0
AreRun code zero old new = new ≡ old
AreRun code (suc n) old new = (middle : Control Fault) × AreRun code n old middle × IsRunOne code middle new
