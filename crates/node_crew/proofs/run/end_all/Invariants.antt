use Rattle.std.proofs.Common.{◌≡◌, map}
use Rattle.stations.specs.Stations.{fixed}
use Rattle.node_crew.proofs.run.end_all.Given as goal

abbrev pub invariant-loop : goal.invariant-loop
invariant-loop g l = map fixed l.stations.items ≡ map fixed l.fn.stations.items
