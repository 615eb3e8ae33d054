use Rattle.std.proofs.Common.{◌≡◌}
use Rattle.rotation_cases.proofs.cores.scarce_nodes.Given as goal

abbrev pub invariant-loop-node : goal.invariant-loop-node
invariant-loop-node l = l.scarce.items ≡ l.yielded
