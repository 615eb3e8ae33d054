use Rattle.std.proofs.Common.{◌≡◌, ◌-◌, drop, take}
use Rattle.part_steps.specs.Computed.{join_of, keep_of, over}
use Rattle.part_steps.specs.Gathered.{after_of}
use Rattle.slot_values.specs.KeptFaults.{kepts}
use Rattle.part_steps.proofs.reductions.ReduceValues.add_tuples.Given as goal

-- what those so far come to
abbrev pub invariant-loop-index : goal.invariant-loop-index
invariant-loop-index l = let b = after_of l.gathered in record {
  value : l.self.value ≡ over (join_of b l.op) (take (l.index - l.from) (drop l.from l.run)) l.initial.self.value;
  fault : kepts l.self.fault ≡ over (keep_of b l.number) (take (l.index - l.from) (drop l.from l.run)) (kepts l.initial.self.fault);
}
