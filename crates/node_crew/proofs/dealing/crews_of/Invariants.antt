use Rattle.std.proofs.Common.{◌≡◌, ◌<◌, ◌++◌, length, map}
use Rattle.node_crew.specs.Crews.{joined}
use Rattle.stations.specs.Stations.{fixed}
use Rattle.node_crew.proofs.dealing.crews_of.Given as goal

abbrev pub invariant-loop-station : goal.invariant-loop-station
invariant-loop-station l = (joined l.crews.items ++ map fixed l.crew.items ≡ map fixed l.yielded)
    × (l.place ≡ length l.yielded)
    × (length l.crews.items < l.fn.count)
    × (l.fn.stations.items ≡ l.yielded ++ l.station-iterator.rest.items)
