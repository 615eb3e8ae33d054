-- Of private clauses.
-- No public clause cites this file. Parallel statements and reductions over whole arrays.
use Rattle.std.specs.Prelude.{◌≡◌, ℕ, ℤ, List, map, Option}
use Rattle.op_tables.specs.declared.join.Join.{Join}
use Rattle.storage.specs.Storage.{Storage, Spot, read}
use Rattle.storage.specs.Effect.{Effect, scatter}
use Rattle.expression_rules.specs.declared.dims.Dim.{Dim}
use Rattle.array_meaning.specs.Faults.{Fault}
use Rattle.machine_steps.specs.Instr.{Instr, Outcome, Par, Tuples}
use Rattle.machine_steps.specs.Machine.{Machine, earlier, effect_by, effect_of, folded, keep, outcome_of, value_by}
use Rattle.code_meaning.specs.NestStatements.{nest_spot, nest_tuples}
use Rattle.code_meaning.specs.Parallel.{assigned_spot, assignment_tuples, copy_spot, evaluation_tuples, fold_of, forall_mask_tuples, forall_spot, forall_tuples}
use Rattle.code_meaning.specs.ProgramText.{Text}
use Rattle.node_code.specs.Texts.{assignment, evaluation, nest_statement}
use Rattle.slot_values.specs.KeptFaults.{kepts}
use Rattle.tuple_values.specs.Statements.{Statement, tuple_left, tuple_outcome, tuple_reads}
use Rattle.whole_machine.specs.Stores.{stored}
use Rattle.whole_machine.specs.declared.part_values.ParValues.{ParValues}
use Rattle.whole_machine.specs.declared.reduction_values.ReduceValues.{ReduceValues}
use Rattle.whole_machine.specs.declared.parts.Parallel.{Parallel}
use Rattle.whole_machine.specs.declared.parts.Parallel.TheVariants.{Assignment, Forall, Nest, Copy, ForallCopy}

-- what a statement comes to at a tuple, and what it does to the element that is assigned
abbrev pub outcome_at : Storage → Statement → ℕ → Outcome Fault
outcome_at rows w t = tuple_outcome w t (map (value_by (read rows)) (tuple_reads w t))

abbrev pub effect_at : Storage → Statement → ℕ → Effect Fault
effect_at rows w t = effect_by (tuple_left w t) (outcome_at rows w t)

-- a parallel statement over arrays of these shapes
abbrev pub par_instr : List (List Dim) → Parallel → Instr Fault
par_instr shapes (Assignment p) = Par (assignment_tuples shapes (assignment p.now)) (assigned_spot shapes (assignment p.now))
par_instr shapes (Forall p) = Par (forall_tuples shapes (assignment p.now)) (forall_spot shapes (assignment p.now))
par_instr shapes (Nest p) = Par (nest_tuples shapes (nest_statement p.now)) (nest_spot shapes (nest_statement p.now))
par_instr shapes (Copy copy p) = Par (evaluation_tuples shapes (evaluation p.now)) (copy_spot copy)
par_instr shapes (ForallCopy copy p) = Par (forall_mask_tuples shapes (evaluation p.now)) (copy_spot copy)

-- what the parallel statement comes to
pub record IsParResult (i : Instr Fault) (m : Machine Text Fault) (r : ParValues) : Type 0 where
  pub tuples : Tuples Fault
  pub left : List ℤ → ℕ → Option Spot
  pub is : i ≡ Par tuples left
  pub rows : stored r.stores m.rows ≡ scatter (effect_of tuples left m.control.slots (read m.rows)) (tuples.count m.control.slots) m.rows
  pub kept : earlier m.kept (kepts r.fault) ≡ keep (outcome_of tuples m.control.slots (read m.rows)) m.parts (tuples.count m.control.slots) m.kept

-- what the reduction of these tuples comes to
pub record IsReduceResult (tuples : Tuples Fault) (op : Join) (m : Machine Text Fault) (r : ReduceValues) : Type 0 where
  pub joined : r.joined ≡ folded (fold_of op) (outcome_of tuples m.control.slots (read m.rows)) (tuples.count m.control.slots)
  pub kept : earlier m.kept (kepts r.fault) ≡ keep (outcome_of tuples m.control.slots (read m.rows)) m.parts (tuples.count m.control.slots) m.kept
