-- Of private clauses.
-- No public clause cites this file. The first step of reductions on a node.
use Rattle.std.specs.Prelude.{◌≡◌, ℕ, ℤ, List}
use Rattle.op_tables.specs.declared.join.Join.{Join}
use Rattle.op_tables.specs.Joins.{join}
use Rattle.array_meaning.specs.Faults.{Fault}
use Rattle.machine_steps.specs.Instr.{Instr, Reduce, Tuples}
use Rattle.machine_steps.specs.Machine.{earlier, keep}
use Rattle.machine_steps.specs.Message.{reduce_part}
use Rattle.machine_steps.specs.Node.{Node, join_below, local_outcome, outcome_value}
use Rattle.code_meaning.specs.Parallel.{fold_of, reduction_tuples}
use Rattle.node_code.specs.Texts.{evaluation, instruction}
use Rattle.code_meaning.specs.ProgramText.{Text}
use Rattle.tuple_values.specs.Statements.{IsStatement, Statement, no_left}
use Rattle.slot_values.specs.KeptFaults.{kepts}
use Rattle.part_steps.specs.declared.reductions.ReduceValues.{ReduceValues}
use Rattle.node_machine.specs.Parts.{IsCode}
use Rattle.node_machine.specs.declared.reductions.Reducing.{Reducing}

-- the instruction is this reduction, of which the first step joins the values
pub record IsReducing (i : Instr Fault) (k : ℕ) (r : Reducing) : Type 0 where
  pub is : i ≡ Reduce (reduction_tuples r.shapes.now.items (evaluation r.evaluation.now) r.reduction.made) (fold_of r.reduction.join) r.slot
  pub code : IsCode i (instruction r.i.now)
  pub first : k ≡ 0

-- it is a reduction of the values of this statement by this operator
pub record IsReduced (i : Instr Fault) (slots : List ℤ) (o : Join) (w : Statement) : Type 0 where
  pub tuples : Tuples Fault
  pub slot : ℕ
  pub is : i ≡ Reduce tuples (fold_of o) slot
  pub statement : IsStatement w slots tuples no_left

-- what it comes to after its phase
pub record IsReduceResult (i : Instr Fault) (a : Node Text Fault) (r : ReduceValues) : Type 0 where
  pub tuples : Tuples Fault
  pub op : Join
  pub slot : ℕ
  pub is : i ≡ Reduce tuples (fold_of op) slot
  pub first : a.substep ≡ 0
  pub value : r.value
      ≡ join_below (join op) (λ t. outcome_value (local_outcome a.nodes (reduce_part a.nodes a.layouts tuples a.control.slots) tuples a t)) (reduce_part a.nodes a.layouts tuples a.control.slots).tuples
  pub kept : earlier a.kept (kepts r.fault)
      ≡ keep (local_outcome a.nodes (reduce_part a.nodes a.layouts tuples a.control.slots) tuples a) a.parts (reduce_part a.nodes a.layouts tuples a.control.slots).tuples a.kept
