use Rattle.std.specs.List.{AllWithin}
use Rattle.stations.specs.Stations.{HasEnded}
use Rattle.stations.proofs.closing.all_ended.Given as goal

abbrev pub invariant-loop-station : goal.invariant-loop-station
invariant-loop-station g l = AllWithin (HasEnded g.N.PhasedNode.steps) l.stations 0 l.station-index
