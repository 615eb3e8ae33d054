-- Of private clauses.
-- No public clause cites this file. Instructions whose values go round a tree.
use Rattle.std.specs.Prelude.{◌≡◌, ◌≤◌, ℕ, Bool, true, false}
use Rattle.array_meaning.specs.Faults.{Fault}
use Rattle.machine_steps.specs.Instr.{Control, Instr, Tuples, Reduce}
use Rattle.machine_steps.specs.Machine.{on, stay}
use Rattle.op_tables.specs.declared.join.Join.{Join}
use Rattle.code_meaning.specs.Parallel.{fold_of}
use Rattle.node_machine.specs.declared.trees.Reduction.{Reduction}

-- where the run goes on after a verdict: that of a reduction is a step of it
abbrev pub next_of : Bool → Control Fault → Control Fault
next_of true = stay
next_of false = on

abbrev pub step_of : Bool → ℕ
step_of true = 2
step_of false = 0

-- the instruction is a reduction, of which the second step is the verdict
pub record IsReduceVerdict (i : Instr Fault) (k : ℕ) : Type 0 where
  pub tuples : Tuples Fault
  pub op : Join
  pub slot : ℕ
  pub is : i ≡ Reduce tuples (fold_of op) slot
  pub second : k ≡ 1

-- it is this reduction, of which the third step is the tree of its values
pub record IsReduceTree (i : Instr Fault) (k : ℕ) (r : Reduction) : Type 0 where
  pub tuples : Tuples Fault
  pub is : i ≡ Reduce tuples (fold_of r.op) r.slot
  pub third : 2 ≤ k
