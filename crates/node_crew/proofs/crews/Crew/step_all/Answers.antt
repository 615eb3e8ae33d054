use Rattle.std.proofs.Common.{◌∙◌, ◌≡◌, rules}
use Rattle.stations.specs.Stations.{fixed}
use Rattle.node_crew.proofs.Lists.{map_set_or}
use Rattle.node_crew.proofs.crews.Crew.step_all.Goals as goal

pub loop-station-preserved : goal.loop-station-preserved
loop-station-preserved g c =
    let same : fixed c.turn_of.new.station ≡ fixed c.station-item.result = search rules in
    map_set_or fixed c.loop-station.station-items c.loop-station.station-index c.station-item.result c.turn_of.new.station c.station-item.is same ∙ c.loop-station.invariant
