use Rattle.std.proofs.Common.{◌≡◌, ◌-◌, ◌≤◌, length, drop}
use Rattle.part_steps.specs.After.{fault_below, joined_below, tuples}
use Rattle.part_steps.specs.Computed.{join_of, keep_of, over}
use Rattle.part_steps.specs.Gathered.{after_of}
use Rattle.slot_values.specs.KeptFaults.{kepts}
use Rattle.part_steps.specs.Strips.{AreReferencesOf}
use Rattle.part_steps.proofs.reductions.gathered_values.Given as goal

-- with what is left of the tuples that the node computes, it is what all tuples come to
abbrev pub invariant-loop-done : goal.invariant-loop-done
invariant-loop-done l = let b = after_of l.gathered in record {
  references : AreReferencesOf l.gathered l.references;
  within : l.done ≤ length l.computed;
  value : over (join_of b l.op) (drop l.done l.computed) l.values.value ≡ joined_below b l.op (tuples b);
  fault : over (keep_of b l.number) (drop l.done l.computed) (kepts l.values.fault) ≡ fault_below b l.number (tuples b);
}

abbrev pub decreases-loop-done : goal.decreases-loop-done
decreases-loop-done l = length l.computed - l.done
