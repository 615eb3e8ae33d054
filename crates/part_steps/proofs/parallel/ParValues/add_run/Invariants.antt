use Rattle.std.proofs.Common.{◌≡◌, ◌-◌, ◌≤◌, length, drop}
use Rattle.storage.specs.Storage.{Storage}
use Rattle.part_steps.specs.Computed.{keep_of, over, store_of}
use Rattle.part_steps.specs.Gathered.{after_of}
use Rattle.slot_values.specs.KeptFaults.{kepts}
use Rattle.part_steps.specs.Stores.{stored}
use Rattle.part_steps.proofs.parallel.ParValues.add_run.Given as goal

-- with what is left of the run, it is what the run comes to
abbrev pub invariant-loop-done : goal.invariant-loop-done
invariant-loop-done l = let b = after_of l.gathered in record {
  within : l.done ≤ length l.run;
  stores : (ps : Storage) → over (store_of b) (drop l.done l.run) (stored l.self.stores ps) ≡ over (store_of b) l.run (stored l.initial.self.stores ps);
  fault : over (keep_of b l.number) (drop l.done l.run) (kepts l.self.fault) ≡ over (keep_of b l.number) l.run (kepts l.initial.self.fault);
}

abbrev pub decreases-loop-done : goal.decreases-loop-done
decreases-loop-done l = length l.run - l.done
