-- Of the claim.
-- What it is for a program to be lowered: the machine over its code ends as it does.
use Rattle.std.specs.Prelude.{◌≡◌, ℕ, ◌<◌, ◌≤◌, true, List, [], ◌∷◌, ◌++◌, length, map, replicate, slice_get, slice_index_or, ℤ, pos, Option, None}
use Rattle.storage.specs.Storage.{row_of}
use Rattle.array_meaning.specs.Faults.{Fault}
use Rattle.array_meaning.specs.State.{State, scalar, array}
use Rattle.array_meaning.specs.Statements.{Block}
use Rattle.array_meaning.specs.Runs as runs
use Rattle.array_meaning.specs.Runs.{Completion, Run}
use Rattle.array_meaning.specs.Serial as serial
use Rattle.array_meaning.specs.Serial.{Outcome}
use Rattle.machine_steps.specs.Layout.{Layout, size_of}
use Rattle.machine_steps.specs.Space.{space_count}
use Rattle.machine_steps.specs.Instr.{Running, Finished, Faulted}
use Rattle.machine_steps.specs.Machine.{Machine, steps}
use Rattle.statement_trail.specs.Trail.{Trail}
use Rattle.lowered_expressions.specs.Passed.{passed, IsTrail}
use Rattle.code_meaning.specs.Flat.{slot}
use Rattle.hpf_base.specs.declared.limits.TheConstants.{MAX_ELEMENTS}
use Rattle.node_code.specs.Instructions.{NewMapping, Instruction}
use Rattle.code_meaning.specs.Beside.{Anchor}
use Rattle.code_meaning.specs.Instructions.{ArrayTable, IsAnchorBelow, lies_alone, meaning_of}
use Rattle.program_code.specs.StatementCode.{block_slots, program_code}

-- scalars and arrays have one numbering, by the places of n declared names
pub record IsState (n : ℕ) (s : State) : Type 0 where
  pub scalars : length s.scalars ≡ n
  pub arrays : length s.arrays ≡ n

-- the machine before the first instruction: the slots are the scalars and then the hidden slots, and the rows are the arrays and then so
-- many copies, which aren't made yet. How the rows lie plays no part
abbrev pub opening : (n room : ℕ) → (ℕ → List NewMapping) → Block → State → List Layout → Machine Instruction Fault
opening n room moves body s layouts = record {
  code = program_code n moves body;
  control = record { at = 0; slots = s.scalars ++ replicate (block_slots body) (pos 0); status = Running };
  substep = 0;
  rows = map (λ a. a.elements) s.arrays ++ replicate room [];
  layouts = layouts;
  kept = None;
  parts = 0;
  joined = pos 0;
  line = [];
  printed = s.printed;
}

-- the arrays as declared, and copies with a layout that has an element for each tuple of their space. Where what is assigned is an element of a
-- declared array, or isn't said, the layout depends on how the declared arrays lie alone
pub record IsTable (s : State) (table : ArrayTable) : Type 0 where
  pub shapes : table.shapes ≡ map (λ a. a.dims) s.arrays
  pub copies : (layouts : List Layout) (anchor : Option Anchor) (extents : List ℕ) → size_of (table.copies layouts anchor extents) ≡ space_count extents
  pub steady : (one other : List Layout) (anchor : Option Anchor) (extents : List ℕ)
      → ((r : ℕ) → r < length table.shapes → slice_get one r ≡ slice_get other r) → IsAnchorBelow (length table.shapes) anchor
      → table.copies one anchor extents ≡ table.copies other anchor extents
  pub alone : (layouts : List Layout) (m : ℕ) → m ≤ MAX_ELEMENTS → lies_alone table (table.copies layouts None (m ∷ [])) ≡ true

-- the slots of the declared names are the scalars, and the rows the arrays, of which there are as many as names
abbrev pub IsLeft : ℕ → Machine Instruction Fault → State → Type 0
IsLeft n m s = ((k : ℕ) → k < n → slot m.control.slots k ≡ scalar s k) × ((a : ℕ) → a < n → row_of m.rows a ≡ (array s a).elements)
    × (length s.arrays ≡ n)

-- the machine has ended as a run did: with its fault, or finished with its scalars and arrays; and in both cases with its bytes, and keeps no
-- fault
abbrev pub EndsAs : ℕ → Machine Instruction Fault → State → Completion → Type 0
EndsAs n m s (runs.Faulted f) = (m.control.status ≡ Faulted f) × (m.printed ≡ s.printed) × (m.kept ≡ None)
EndsAs n m s completion = (m.control.status ≡ Finished) × (m.printed ≡ s.printed) × IsLeft n m s × (m.kept ≡ None)

-- the machine ends as a run did
abbrev pub MachineEnds : ℕ → ArrayTable → Machine Instruction Fault → Run → Type 0
MachineEnds n table m r = (k : ℕ) × EndsAs n (steps (meaning_of table) k m) r.state r.completion

-- and it passes just these entries, one after another
abbrev pub MachinePasses : ℕ → ArrayTable → (ℕ → List NewMapping) → Machine Instruction Fault → Run → Trail → Type 0
MachinePasses n table moves m r entries =
    (k : ℕ) × EndsAs n (steps (meaning_of table) k m) r.state r.completion × IsTrail moves (passed table k m) entries

-- ---- against the serial outcome

-- the machine has ended so, with these arrays, as many as names
abbrev pub IsEnd : ℕ → Machine Instruction Fault → serial.End → List (List ℤ) → Type 0
IsEnd n m serial.Finished arrays = (m.control.status ≡ Finished) × ((a : ℕ) → a < n → row_of m.rows a ≡ slice_index_or arrays a [])
    × (length arrays ≡ n)
IsEnd n m (serial.Faulted f) arrays = m.control.status ≡ Faulted f

-- the machine ends with an outcome: what was printed, and the end
abbrev pub MachineHas : ℕ → ArrayTable → Machine Instruction Fault → Outcome → Type 0
MachineHas n table m o = (k : ℕ) × ((steps (meaning_of table) k m).printed ≡ o.printed) × IsEnd n (steps (meaning_of table) k m) o.end o.arrays
