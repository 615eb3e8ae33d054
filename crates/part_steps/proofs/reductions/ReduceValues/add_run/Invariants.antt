use Rattle.std.proofs.Common.{◌≡◌, ◌-◌, ◌≤◌, length, drop}
use Rattle.part_steps.specs.Computed.{join_of, keep_of, over}
use Rattle.part_steps.specs.Gathered.{after_of}
use Rattle.slot_values.specs.KeptFaults.{kepts}
use Rattle.part_steps.proofs.reductions.ReduceValues.add_run.Given as goal

-- with what is left of the run, it is what the run comes to
abbrev pub invariant-loop-done : goal.invariant-loop-done
invariant-loop-done l = let b = after_of l.gathered in record {
  within : l.done ≤ length l.run;
  value : over (join_of b l.op) (drop l.done l.run) l.self.value ≡ over (join_of b l.op) l.run l.initial.self.value;
  fault : over (keep_of b l.number) (drop l.done l.run) (kepts l.self.fault) ≡ over (keep_of b l.number) l.run (kepts l.initial.self.fault);
}

abbrev pub decreases-loop-done : goal.decreases-loop-done
decreases-loop-done l = length l.run - l.done
