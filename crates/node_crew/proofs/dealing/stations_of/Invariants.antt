use Rattle.std.proofs.Common.{◌≡◌, map}
use Rattle.node_crew.specs.Crews.{joined}
use Rattle.stations.specs.Stations.{fixed}
use Rattle.node_crew.proofs.dealing.stations_of.Given as goal

abbrev pub invariant-loop-crew : goal.invariant-loop-crew
invariant-loop-crew l = map fixed l.all.items ≡ joined l.yielded
