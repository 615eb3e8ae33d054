use Rattle.std.proofs.Common.{◌≡◌}
use Rattle.node_crew.proofs.crews.Crew.run.Given as goal

abbrev pub invariant-loop : goal.invariant-loop
invariant-loop g l = l.self ≡ l.fn.self
