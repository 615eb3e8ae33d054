use Rattle.std.proofs.Common.{◌≡◌, map}
use Rattle.stations.specs.Stations.{fixed}
use Rattle.node_crew.proofs.crews.Crew.step_all.Given as goal

abbrev pub invariant-loop-station : goal.invariant-loop-station
invariant-loop-station g l = map fixed l.station-items ≡ l.fn.self
