-- A station may go to any thread where its node may.
use denote.RattleType.{RattleType}
use denote.Struct.Declared.{shape}
use denote.Param.Send.{IsSend, view_send, struct_send, recorded_send}
use Rattle.std.proofs.Crossing.{crosses}
use Rattle.std.specs.contracts.snapshot.Snapshot as Snapshot
use Rattle.letters.specs.declared.letter.Letter.{Letter}
use Rattle.node_law.specs.declared.node.PhasedNode.{Ghosts}
use Rattle.stations.specs.contracts.station.Station as Station
use Rattle.stations.specs.contracts.station.Station.TheInside as Inside
use Rattle.stations.proofs.station.Ends.TheSendSync.{the_field_send as ends_send}

snapshot_send : (N : RattleType) → IsSend (Snapshot.the_row N)
snapshot_send N = search crosses

pub station_send : (N : RattleType) (g : Ghosts N.Denot Letter) → IsSend N → IsSend (Station.the_row N g)
station_send N g send =
    let T = Inside.the_type N g in
    view_send _ _ _ _ _ (recorded_send _ _ T.to T.to_one (struct_send (shape T) (snapshot_send N, (send, (ends_send, tt)))))
