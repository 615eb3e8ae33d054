-- Of a promise.
-- What it is for nodes to pass the trail of a program.
use Rattle.std.specs.Prelude.{◌≡◌, ℕ, List, [], ◌∷◌, length, take, Some}
use Rattle.std.specs.List.{slice_get}
use Rattle.mappings.specs.declared.mapping.Mapping.{Mapping}
use Rattle.syntax_tree.specs.MainProgram.{MainProgram}
use Rattle.name_table.specs.Entries.{entries}
use Rattle.array_meaning.specs.Faults.{Fault}
use Rattle.statement_trail.specs.Trail.{TrailEntry, serial_trail}
use Rattle.passed_states.specs.TrailLayouts.{trail_layouts}
use Rattle.machine_steps.specs.Agrees.{NodesSegment, first_own}
use Rattle.machine_steps.specs.Layout.{Layout}
use Rattle.machine_steps.specs.Machine.{Machine}
use Rattle.code_meaning.specs.FaultValues.{fault_values}
use Rattle.node_code.specs.Instructions.{Instruction, NewMapping}
use Rattle.code_meaning.specs.Instructions.{remappings}
use Rattle.code_meaning.specs.ProgramText.{text, text_meaning}
use Rattle.lowered_expressions.specs.Passed.{Passed, IsTrailEntry, passed_now}
use Rattle.node_run.specs.Coded.{with_code}
use Rattle.nodes_lowered.specs.ProgramRuns.{program_shapes, text_opening}

-- at this state of the machine its next instruction is the entry with this number of the program's trail, and the declared names lie as at
-- first, with the redistributions before it
pub record IsReached (p : MainProgram) (maps : List Mapping) (moves : ℕ → List NewMapping) (first : List Layout) (i : ℕ) (e : TrailEntry)
    (m : Machine Instruction Fault) : Type 0 where
  pub passed : Passed
  pub next : passed_now m ≡ passed ∷ []
  pub is : IsTrailEntry moves passed e
  pub moved : take (length (entries p)) m.layouts
      ≡ trail_layouts (λ line. remappings maps (moves line)) (take i (serial_trail p)) (take (length (entries p)) first)

-- for each entry of the trail, a segment of the lockstep run of the program's nodes leads from its beginning to nodes that all agree with such
-- a state: they have its place, its slots and its layouts
abbrev pub TrailOnNodes : ℕ → MainProgram → List Mapping → (ℕ → List NewMapping) → List Layout → Type 0
TrailOnNodes nodes p maps moves first = (i : ℕ) (e : TrailEntry) → slice_get (serial_trail p) i ≡ Some e → (m : Machine Instruction Fault)
    × IsReached p maps moves first i e m
    × NodesSegment fault_values text_meaning nodes 1 (text_opening nodes p maps moves first) (first_own nodes)
    (with_code (text nodes maps (program_shapes p)) m)
