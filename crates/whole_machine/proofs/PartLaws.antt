-- What a statement comes to over whole arrays is what its instruction does.
use Rattle.std.proofs.Common.{◌≡◌, ℕ, ℤ, List, map, Option, None, sym, ◌∙◌}
use Rattle.op_tables.specs.declared.join.Join.{Join}
use Rattle.storage.specs.Storage.{Spot, read}
use Rattle.storage.specs.Effect.{scatter}
use Rattle.array_meaning.specs.Faults.{Fault}
use Rattle.machine_steps.specs.Instr.{Tuples}
use Rattle.machine_steps.specs.Machine.{Machine, earlier, effect_by, effect_of, folded, keep, outcome_of, value_by}
use Rattle.code_meaning.specs.Parallel.{fold_of}
use Rattle.code_meaning.specs.ProgramText.{Text}
use Rattle.tuple_values.specs.Statements.{IsStatement, Statement, tuple_count, tuple_reads}
use Rattle.node_run.proofs.KeptFaults.{kept-apart}
use Rattle.whole_machine.specs.Parts.{effect_at, outcome_at}

module _ (m : Machine Text Fault) (w : Statement) (tuples : Tuples Fault) (left : List ℤ → ℕ → Option Spot) (is : IsStatement w m.control.slots tuples left) where
  outcome-is : (t : ℕ) → outcome_at m.rows w t ≡ outcome_of tuples m.control.slots (read m.rows) t
  outcome-is t = is.outcome t (map (value_by (read m.rows)) (tuple_reads w t)) ∙ (λ i. tuples.outcome m.control.slots t (map (value_by (read m.rows)) (is.reads t i)))

  pub rows-are : scatter (effect_at m.rows w) (tuple_count w) m.rows ≡ scatter (effect_of tuples left m.control.slots (read m.rows)) (tuples.count m.control.slots) m.rows
  rows-are = λ i. scatter (λ t. effect_by (is.left t i) (outcome-is t i)) (is.count i) m.rows

  pub kept-is : (number : ℕ) → earlier m.kept (keep (outcome_at m.rows w) number (tuple_count w) None)
      ≡ keep (outcome_of tuples m.control.slots (read m.rows)) number (tuples.count m.control.slots) m.kept
  kept-is number = sym (kept-apart (outcome_at m.rows w) number (tuple_count w) m.kept) ∙ (λ i. keep (λ t. outcome-is t i) number (is.count i) m.kept)

  pub joined-is : (op : Join) → folded (fold_of op) (outcome_at m.rows w) (tuple_count w) ≡ folded (fold_of op) (outcome_of tuples m.control.slots (read m.rows)) (tuples.count m.control.slots)
  joined-is op = λ i. folded (fold_of op) (λ t. outcome-is t i) (is.count i)
