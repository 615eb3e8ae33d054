use Rattle.std.proofs.Common.{◌≡◌, None}
use Rattle.machine_steps.specs.Machine.{folded, keep}
use Rattle.code_meaning.specs.Parallel.{fold_of}
use Rattle.slot_values.specs.KeptFaults.{kepts}
use Rattle.tuple_values.specs.Views.{statement as statement_of}
use Rattle.whole_machine.specs.Parts.{outcome_at}
use Rattle.whole_machine.proofs.reduction_values.reduce_values.Given as goal

-- what the first tuples come to
abbrev pub invariant-loop-tuple : goal.invariant-loop-tuple
invariant-loop-tuple l = record {
  joined : l.values.joined ≡ folded (fold_of l.op) (outcome_at l.rows (statement_of l.statement)) l.tuple;
  fault : kepts l.values.fault ≡ keep (outcome_at l.rows (statement_of l.statement)) l.number l.tuple None;
}
