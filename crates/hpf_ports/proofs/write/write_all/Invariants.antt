use Rattle.std.proofs.Common.{◌-◌, ◌≤◌, length, take}
use Rattle.hpf_ports.specs.Ports.{AreAppended}
use Rattle.hpf_ports.proofs.write.write_all.Given as goal

-- the sink took what is done
abbrev pub invariant-loop-done : goal.invariant-loop-done
invariant-loop-done g l = record {
  took : AreAppended (g.O.Sink.held l.initial.out) (g.O.Sink.held l.out) (take l.done l.bytes);
  within : l.done ≤ length l.bytes;
  count : g.O.Sink.faults l.initial.out ≤ g.O.Sink.faults l.out;
}

abbrev pub decreases-loop-done : goal.decreases-loop-done
decreases-loop-done g l = length l.bytes - l.done
