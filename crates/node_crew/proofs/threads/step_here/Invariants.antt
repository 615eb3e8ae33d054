use Rattle.std.proofs.Common.{◌≡◌}
use Rattle.node_crew.proofs.threads.step_here.Given as goal

abbrev pub invariant-loop-crew : goal.invariant-loop-crew
invariant-loop-crew g l = l.crew-items ≡ l.fn.here.items
