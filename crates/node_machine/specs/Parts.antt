-- Of private clauses.
-- No public clause cites this file. Parallel statements on a node.
use Rattle.std.specs.Prelude.{◌≡◌, ◌<◌, ℕ, ℤ, All, List, Option, Some}
use Rattle.std.specs.Arc.{arc_value}
use Rattle.storage.specs.Storage.{Spot}
use Rattle.array_meaning.specs.Faults.{Fault}
use Rattle.machine_steps.specs.Instr.{Instr, Par, Tuples}
use Rattle.machine_steps.specs.Machine.{earlier, effect_by, instr_at, keep}
use Rattle.machine_steps.specs.Message.{Part, par_part}
use Rattle.machine_steps.specs.Node.{Node, begun_by, local_outcome, local_scatter, no_values, part_opened, settled}
use Rattle.expression_rules.specs.declared.dims.Dim.{Dim}
use Rattle.code_meaning.specs.FaultValues.{fault_values}
use Rattle.code_meaning.specs.Instructions.{ArrayTable, meaning_of}
use Rattle.node_code.specs.Instructions.{Instruction}
use Rattle.code_meaning.specs.NestStatements.{nest_spot, nest_tuples}
use Rattle.code_meaning.specs.Parallel.{assigned_spot, assignment_tuples, copy_spot, evaluation_tuples, forall_mask_tuples, forall_spot, forall_tuples}
use Rattle.code_meaning.specs.ProgramText.{Text, text_meaning}
use Rattle.node_code.specs.Texts.{assignment, evaluation, instruction, nest_statement}
use Rattle.slot_values.specs.KeptFaults.{kepts}
use Rattle.part_steps.specs.Stores.{stored}
use Rattle.part_steps.specs.declared.parallel.ParValues.{ParValues}
use Rattle.part_steps.specs.InstructionExchange.{HasLists}
use Rattle.part_steps.specs.InstructionParts.{instruction_part}
use Rattle.node_machine.specs.Exchanges.{IsExchangeHere}
use Rattle.node_machine.specs.declared.parts.Opening.{Opening}
use Rattle.node_machine.specs.declared.parts.ParStep.{ParStep}
use Rattle.node_machine.specs.declared.parts.Parallel.{Parallel}
use Rattle.node_machine.specs.declared.parts.Parallel.TheVariants.{Assignment, Forall, Nest, Copy, ForallCopy}
use Rattle.node_machine.specs.declared.phases.PartPhase.{PartPhase}

-- the instruction is what a text means
pub record IsCode (i : Instr Fault) (text : Instruction) : Type 0 where
  pub table : ArrayTable
  pub is : i ≡ meaning_of table text

-- a parallel statement over arrays of these shapes
abbrev pub par_instr : List (List Dim) → Parallel → Instr Fault
par_instr shapes (Assignment p) = Par (assignment_tuples shapes (assignment p.now)) (assigned_spot shapes (assignment p.now))
par_instr shapes (Forall p) = Par (forall_tuples shapes (assignment p.now)) (forall_spot shapes (assignment p.now))
par_instr shapes (Nest p) = Par (nest_tuples shapes (nest_statement p.now)) (nest_spot shapes (nest_statement p.now))
par_instr shapes (Copy p) = Par (evaluation_tuples shapes (evaluation p.evaluation.now)) (copy_spot p.copy)
par_instr shapes (ForallCopy p) = Par (forall_mask_tuples shapes (evaluation p.evaluation.now)) (copy_spot p.copy)

-- the instruction is this parallel statement
pub record IsPar (i : Instr Fault) (p : ParStep) : Type 0 where
  pub is : i ≡ par_instr p.shapes.now.items p.statement
  pub code : IsCode i (instruction p.i.now)

-- what opens the phase of a part on a node
abbrev pub IsOpening : Part → Node Text Fault → Opening → Type 0
IsOpening part a o = settled (record a { received = no_values a.nodes }) o.outbox.items o.inbox.items ≡ part_opened a.nodes part a

-- the instruction is this part, and its phase is opened next
pub record OpensPart (a : Node Text Fault) (part : Part) : Type 0 where
  pub is : instruction_part a.nodes a.layouts a.control.slots (instr_at text_meaning a.code a.control.at) ≡ Some part
  pub opened : part_opened a.nodes part a ≡ begun_by fault_values a.nodes (instr_at text_meaning a.code a.control.at) a

-- what a node needs to open the phase of the part at its place
pub record IsPhase (a : Node Text Fault) (x : PartPhase) : Type 0 where
  pub opened : settled (record a { received = x.received.items }) x.opening.outbox.items x.opening.inbox.items
      ≡ begun_by fault_values a.nodes (instr_at text_meaning a.code a.control.at) a
  pub targets : All (λ parcel. parcel.to < a.nodes) x.opening.outbox.items
  pub sources : All (λ source. source < a.nodes) x.opening.inbox.items
  pub exchange : IsExchangeHere a (arc_value x.found.exchange)
  pub lists : HasLists a.nodes (arc_value x.found.exchange)

-- what the parallel statement comes to after its phase
pub record IsParResult (i : Instr Fault) (a : Node Text Fault) (r : ParValues) : Type 0 where
  pub tuples : Tuples Fault
  pub left : List ℤ → ℕ → Option Spot
  pub is : i ≡ Par tuples left
  pub pieces : stored r.stores a.pieces
      ≡ local_scatter a.layouts a.id (λ t. effect_by (left a.control.slots t) (local_outcome a.nodes (par_part a.layouts tuples left a.control.slots) tuples a t)) (par_part a.layouts tuples left a.control.slots).tuples a.pieces
  pub kept : earlier a.kept (kepts r.fault)
      ≡ keep (local_outcome a.nodes (par_part a.layouts tuples left a.control.slots) tuples a) a.parts (par_part a.layouts tuples left a.control.slots).tuples a.kept
