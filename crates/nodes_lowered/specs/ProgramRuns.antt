-- Of the claim.
-- What it is for nodes to run a program: how they begin, and how their run ends.
use Rattle.std.specs.Prelude.{◌≡◌, ℕ, ◌<◌, List, length, map, take, slice_index_or, Option, Some, None, []}
use Rattle.std.specs.List.{slice_get}
use Rattle.syntax_tree.specs.MainProgram.{MainProgram}
use Rattle.expression_rules.specs.declared.dims.Dim.{Dim}
use Rattle.name_table.specs.Entries.{entries}
use Rattle.node_law.specs.Cores.{start}
use Rattle.node_law.specs.NodeSteps.{NodeSteps}
use Rattle.node_law.specs.Phases.{Lockstep}
use Rattle.node_law.specs.Reached.{EndsInLockstep}
use Rattle.storage.specs.Storage.{Spot, read, row_of}
use Rattle.array_meaning.specs.Faults.{Fault}
use Rattle.array_meaning.specs.Resolution.{initial_state, resolved_block}
use Rattle.array_meaning.specs.Serial as serial
use Rattle.array_meaning.specs.Serial.{End}
use Rattle.array_meaning.specs.State.{scalar}
use Rattle.mappings.specs.declared.mapping.Mapping.{Mapping}
use Rattle.statement_trail.specs.Trail.{serial_trail}
use Rattle.passed_states.specs.TrailLayouts.{trail_layouts}
use Rattle.machine_steps.specs.Layout.{AreOwned, Layout, least_owner_of, owned_in, piece, sizes}
use Rattle.machine_steps.specs.Instr.{Control, Status, Running, Finished, Faulted}
use Rattle.machine_steps.specs.Machine.{Machine}
use Rattle.machine_steps.specs.Node.{Node, Ready, at_root, local_read, node_steps}
use Rattle.letters.specs.declared.letter.Letter.{Letter}
use Rattle.machine_steps.specs.Agrees.{openings}
use Rattle.code_meaning.specs.FaultValues.{fault_values}
use Rattle.code_meaning.specs.Flat.{slot}
use Rattle.node_code.specs.Instructions.{NewMapping}
use Rattle.code_meaning.specs.Instructions.{remappings}
use Rattle.code_meaning.specs.ProgramText.{Text, text, text_meaning, texts}
use Rattle.nest_standing.specs.StatementCode.{program_code}
use Rattle.node_run.specs.Coded.{with_code}
use Rattle.nodes_lowered.specs.OnNodes.{program_opening, program_run}

-- the dimensions of the declared names, by their places; what is no array has none
abbrev pub program_shapes : MainProgram → List (List Dim)
program_shapes p = map (λ a. a.dims) (initial_state (entries p)).arrays

-- the code of a program, with these mappings, as texts for so many nodes
abbrev pub program_texts : ℕ → MainProgram → List Mapping → (ℕ → List NewMapping) → List Text
program_texts nodes p maps moves = texts nodes maps (program_shapes p) (program_code (length (entries p)) moves (resolved_block (entries p) p.body))

-- the machine before the first of them
abbrev pub text_opening : ℕ → MainProgram → List Mapping → (ℕ → List NewMapping) → List Layout → Machine Text Fault
text_opening nodes p maps moves layouts = with_code (text nodes maps (program_shapes p)) (program_opening p moves layouts)

abbrev pub program_nodes : ℕ → MainProgram → List Mapping → (ℕ → List NewMapping) → List Layout → List (Node Text Fault)
program_nodes nodes p maps moves layouts = openings nodes (text_opening nodes p maps moves layouts)

abbrev pub program_steps : NodeSteps (Node Text Fault) Letter
program_steps = node_steps fault_values text_meaning

-- ---- the end

-- how a run has ended, where it has
abbrev pub end_by_status : Status Fault → Option End
end_by_status Running = None
end_by_status Finished = Some serial.Finished
end_by_status (Faulted f) = Some (serial.Faulted f)

-- the node q of so many at the end of a program's run: it has the program's code, stands at this place with these slots, and its rows lie
-- so. It stands before this phase, of which it has sent and taken nothing, after so many parts since the last verdict, and keeps no fault. Node 0 has
-- printed what the program prints, and no other anything; where the run is finished, it has its pieces of the last arrays
pub record IsLastNode (nodes : ℕ) (p : MainProgram) (maps : List Mapping) (moves : ℕ → List NewMapping) (control : Control Fault) (layouts : List Layout)
    (phase parts q : ℕ) (node : Node Text Fault) : Type 0 where
  pub number : node.id ≡ q
  pub among : node.nodes ≡ nodes
  pub coded : node.code ≡ program_texts nodes p maps moves
  pub stands : node.control ≡ control
  pub laid : node.layouts ≡ layouts
  pub phase_is : node.phase ≡ phase
  pub ready : node.stage ≡ Ready
  pub received : node.received ≡ []
  pub parts_are : node.parts ≡ parts
  pub kept : node.kept ≡ None
  pub printed : node.printed ≡ at_root q (serial.serial p).printed
  pub pieces : (serial.serial p).end ≡ serial.Finished → (a : ℕ) → a < length (entries p)
      → row_of node.pieces a ≡ piece (owned_in layouts a) q (slice_index_or (serial.serial p).arrays a [])

-- so many nodes at the end of a program's run, which have one code, one place, the same slots, the same layouts, one phase to come and one number of
-- parts. No letter is under way: the number of each pair's next letter is the one that its target awaits. The run has ended as the
-- program does, and the declared names lie as they did at first, with the redistributions of the program's trail. Where it is finished, their
-- slots are the program's last scalars, and each element of its last arrays is at its address in the piece of its least owner
pub record AreLastNodes (nodes : ℕ) (p : MainProgram) (maps : List Mapping) (moves : ℕ → List NewMapping) (first : List Layout) (last : List (Node Text Fault))
    : Type 0 where
  pub control : Control Fault
  pub layouts : List Layout
  pub phase : ℕ
  pub parts : ℕ
  pub some : 0 < nodes
  pub many : length last ≡ nodes
  pub each : (q : ℕ) (node : Node Text Fault) → slice_get last q ≡ Some node → IsLastNode nodes p maps moves control layouts phase parts q node
  pub matched : (q r : ℕ) (source target : Node Text Fault) → slice_get last q ≡ Some source → slice_get last r ≡ Some target
      → slice_index_or source.next_to r 0 ≡ slice_index_or target.next_from q 0
  pub ended : end_by_status control.status ≡ Some (serial.serial p).end
  pub moved : take (length (entries p)) layouts
      ≡ trail_layouts (λ line. remappings maps (moves line)) (serial_trail p) (take (length (entries p)) first)
  pub owned : AreOwned nodes layouts
  pub scalars : (serial.serial p).end ≡ serial.Finished → (k : ℕ) → k < length (entries p) → slot control.slots k ≡ scalar (program_run p).state k
  pub count : (serial.serial p).end ≡ serial.Finished → length (serial.serial p).arrays ≡ length (entries p)
  pub sized : (serial.serial p).end ≡ serial.Finished → (a : ℕ) → a < length (entries p)
      → slice_index_or (sizes layouts) a 0 ≡ length (slice_index_or (serial.serial p).arrays a [])
  pub elements : (serial.serial p).end ≡ serial.Finished → (spot : Spot) (node : Node Text Fault) → spot.row < length (entries p)
      → spot.at < slice_index_or (sizes layouts) spot.row 0 → slice_get last (least_owner_of nodes layouts spot) ≡ Some node
      → local_read layouts (least_owner_of nodes layouts spot) node.pieces spot ≡ read (serial.serial p).arrays spot

-- so many nodes run a program whose arrays lie so at first: they are phased, and in every order of their steps they end as its last nodes
pub record RunOnNodes (nodes : ℕ) (p : MainProgram) (maps : List Mapping) (moves : ℕ → List NewMapping) (first : List Layout) : Type 0 where
  pub count : length (program_nodes nodes p maps moves first) ≡ nodes
  pub phased : Lockstep program_steps (slice_get (program_nodes nodes p maps moves first))
  pub ends : (last : List (Node Text Fault)) → EndsInLockstep program_steps (start (program_nodes nodes p maps moves first)) last
      → AreLastNodes nodes p maps moves first last
