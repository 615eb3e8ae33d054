-- Of a promise.
-- What contracts see of a node's program and fields.
use Rattle.std.specs.Prelude.{◌≡◌, ℕ, ◌<◌, ◌≤◌, List, length}
use Rattle.std.specs.Arc.{arc_value}
use Rattle.hpf_base.specs.declared.limits.TheConstants.{MAX_NODES}
use Rattle.array_meaning.specs.Faults.{Fault}
use Rattle.machine_steps.specs.Node.{Node, Stage, Ready, Passing, Passed, settled}
use Rattle.letters.specs.Parcel.{Parcel}
use Rattle.code_meaning.specs.ProgramText.{Text}
use Rattle.slot_values.specs.Controls.{control_of}
use Rattle.slot_values.specs.KeptFaults.{kepts}
use Rattle.part_steps.specs.KeptExchanges.{AreKeptExchanges}
use Rattle.node_machine.specs.declared.node.Node.TheInside.{Inside}
use Rattle.node_program.specs.Fits.{FitsRows}
use Rattle.node_program.specs.Programs.{code_of}
use Rattle.node_machine.specs.declared.stage.Stage.{Stage as HeldStage}
use Rattle.node_machine.specs.declared.stage.Stage.TheVariants as held

abbrev pub stage_of : HeldStage → List Parcel → List ℕ → Stage
stage_of held.Ready outbox inbox = Ready
stage_of held.Passing outbox inbox = Passing outbox inbox
stage_of held.Passed outbox inbox = Passed

-- the phase ends where nothing of it is left
abbrev pub closed : {C F : Type 0} → Stage → Node C F → Node C F
closed Ready a = a
closed (Passing outbox inbox) a = settled a outbox inbox
closed Passed a = a

abbrev pub node_of : Inside → Node Text Fault
node_of n = record {
  id = n.id;
  nodes = (arc_value n.program).nodes;
  code = code_of (arc_value n.program);
  control = control_of n.control;
  substep = n.substep;
  layouts = n.owners.layouts;
  pieces = n.pieces.items;
  kept = kepts n.kept;
  parts = n.parts;
  joined = n.joined;
  line = n.line.items;
  printed = n.printed.items;
  phase = n.phase;
  stage = stage_of n.stage n.post.outbox n.post.inbox;
  received = n.post.received;
  next_to = n.post.next_to;
  next_from = n.post.next_from;
  round = n.round;
  folded = n.folded.items;
}

pub record IsNode (n : Inside) : Type 0 where
  pub one : n.id < (arc_value n.program).nodes
  pub few : (arc_value n.program).nodes ≤ MAX_NODES
  pub owners : n.owners.nodes ≡ (arc_value n.program).nodes
  pub pieces : length n.pieces.items ≡ length n.owners.layouts
  pub next_to : length n.post.next_to ≡ (arc_value n.program).nodes
  pub next_from : length n.post.next_from ≡ (arc_value n.program).nodes
  pub fits : FitsRows (arc_value n.program) n.owners.layouts
  pub exchanges : AreKeptExchanges (code_of (arc_value n.program)) n.id n.exchanges
