use Rattle.std.proofs.Common.{◌≡◌, map}
use Rattle.stations.specs.Stations.{fixed}
use Rattle.node_crew.proofs.crews.step_each.Given as goal

abbrev pub invariant-loop-station : goal.invariant-loop-station
invariant-loop-station g l = map fixed l.station-items ≡ map fixed l.fn.stations.items
