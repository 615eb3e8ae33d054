use Rattle.std.proofs.Common.{◌≡◌, ◌++◌}
use Rattle.stations.proofs.Gathered.{AreGathered}
use Rattle.stations.proofs.closing.close_stations.Given as goal

abbrev pub invariant-loop-station : goal.invariant-loop-station
invariant-loop-station g l = AreGathered g.N.PhasedNode.steps l.yielded l.nodes.items l.outs.items l.ins.items × (l.fn.stations.items ≡ l.yielded ++ l.station-iterator.rest.items)
