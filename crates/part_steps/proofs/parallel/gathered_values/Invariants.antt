use Rattle.std.proofs.Common.{◌≡◌, ◌-◌, ◌≤◌, length, drop}
use Rattle.storage.specs.Storage.{Storage}
use Rattle.part_steps.specs.After.{fault_below, stored_below, tuples}
use Rattle.part_steps.specs.Computed.{keep_of, over, store_of}
use Rattle.part_steps.specs.Gathered.{after_of}
use Rattle.slot_values.specs.KeptFaults.{kepts}
use Rattle.part_steps.specs.Stores.{stored}
use Rattle.part_steps.specs.Strips.{AreReferencesOf}
use Rattle.part_steps.proofs.parallel.gathered_values.Given as goal

-- with what is left of the tuples that the node computes, it is what all tuples come to
abbrev pub invariant-loop-done : goal.invariant-loop-done
invariant-loop-done l = let b = after_of l.gathered in record {
  references : AreReferencesOf l.gathered l.references;
  within : l.done ≤ length l.computed;
  stores : (ps : Storage) → over (store_of b) (drop l.done l.computed) (stored l.values.stores ps) ≡ stored_below b (tuples b) ps;
  fault : over (keep_of b l.number) (drop l.done l.computed) (kepts l.values.fault) ≡ fault_below b l.number (tuples b);
}

abbrev pub decreases-loop-done : goal.decreases-loop-done
decreases-loop-done l = length l.computed - l.done
