-- Of a promise.
-- The machine with whole arrays at the beginning of a run.
use Rattle.std.specs.Prelude.{ℕ, ℤ, pos, List, [], ◌∷◌, replicate, None}
use Rattle.array_meaning.specs.Faults.{Fault}
use Rattle.storage.specs.Storage.{Storage}
use Rattle.machine_steps.specs.Instr.{Running}
use Rattle.machine_steps.specs.Layout.{Layout, size_of}
use Rattle.machine_steps.specs.Machine.{Machine}
use Rattle.code_meaning.specs.ProgramText.{Text}

-- rows of these layouts, the elements of each with one value
abbrev pub start_rows : List Layout → (starts : List ℤ) → Storage
start_rows (layout ∷ layouts) (start ∷ starts) = replicate (size_of layout) start ∷ start_rows layouts starts
start_rows layouts starts = []

-- the machine with whole arrays at the beginning: before the first instruction, with these slots and these rows
abbrev pub opening_machine : List Text → (slots : List ℤ) → List Layout → (starts : List ℤ) → Machine Text Fault
opening_machine code slots layouts starts = record {
  code = code;
  control = record { at = 0; slots = slots; status = Running };
  substep = 0;
  rows = start_rows layouts starts;
  layouts = layouts;
  kept = None;
  parts = 0;
  joined = pos 0;
  line = [];
  printed = [];
}
