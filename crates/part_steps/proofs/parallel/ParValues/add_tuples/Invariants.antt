use Rattle.std.proofs.Common.{◌≡◌, ◌-◌, drop, take}
use Rattle.storage.specs.Storage.{Storage}
use Rattle.part_steps.specs.Computed.{keep_of, over, store_of}
use Rattle.part_steps.specs.Gathered.{after_of}
use Rattle.slot_values.specs.KeptFaults.{kepts}
use Rattle.part_steps.specs.Stores.{stored}
use Rattle.part_steps.proofs.parallel.ParValues.add_tuples.Given as goal

-- what those so far come to
abbrev pub invariant-loop-index : goal.invariant-loop-index
invariant-loop-index l = let b = after_of l.gathered in record {
  stores : (ps : Storage) → stored l.self.stores ps ≡ over (store_of b) (take (l.index - l.from) (drop l.from l.run)) (stored l.initial.self.stores ps);
  fault : kepts l.self.fault ≡ over (keep_of b l.number) (take (l.index - l.from) (drop l.from l.run)) (kepts l.initial.self.fault);
}
