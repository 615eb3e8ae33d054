use Rattle.std.proofs.Common.{◌≡◌}
use Rattle.node_crew.proofs.threads.run_here.Given as goal

abbrev pub invariant-loop : goal.invariant-loop
invariant-loop g l = l.here.items ≡ l.fn.here.items
