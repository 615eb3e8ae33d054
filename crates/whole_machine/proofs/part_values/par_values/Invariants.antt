use Rattle.std.proofs.Common.{◌≡◌, None}
use Rattle.storage.specs.Storage.{Storage}
use Rattle.storage.specs.Effect.{scatter}
use Rattle.machine_steps.specs.Machine.{keep}
use Rattle.slot_values.specs.KeptFaults.{kepts}
use Rattle.tuple_values.specs.Views.{statement as statement_of}
use Rattle.whole_machine.specs.Parts.{effect_at, outcome_at}
use Rattle.whole_machine.specs.Stores.{stored}
use Rattle.whole_machine.proofs.part_values.par_values.Given as goal

-- what the first tuples come to
abbrev pub invariant-loop-tuple : goal.invariant-loop-tuple
invariant-loop-tuple l = record {
  stores : (m : Storage) → stored l.values.stores m ≡ scatter (effect_at l.rows (statement_of l.statement)) l.tuple m;
  fault : kepts l.values.fault ≡ keep (outcome_at l.rows (statement_of l.statement)) l.number l.tuple None;
}
