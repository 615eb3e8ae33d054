use Rattle.stations.proofs.Keeps.{works_on}
use Rattle.stations.proofs.station.Station.run_local.Goals as goal

pub invariant_of-self : goal.invariant_of-self
invariant_of-self g c = works_on g.N.PhasedNode.steps c.self.invariant c.run.ensures
