-- A crew may go to any thread.
use Prim.Native.Nat.{ℕ}
use mathlib.Core.List.{List, [], ◌∷◌}
use denote.RattleType.{RattleType}
use denote.Struct.Declared.{shape}
use denote.Struct.Tuple.{type_at, TupleAt}
use denote.Param.Send.{IsSend, view_send, struct_send, recorded_send}
use Rattle.std.proofs.Crossing.{Vec-send}
use Rattle.stations.specs.contracts.station.Station as Station
use Rattle.stations.proofs.Sent.{station_send}
use Rattle.sendable_nodes.specs.contracts.Node as Node
use Rattle.sendable_nodes.specs.NodePhasedNode.TheImpl.{ghosts}
use Rattle.sendable_nodes.proofs.NodeSent.{node_sent}
use Rattle.node_crew.specs.contracts.crews.Crew as Crew
use Rattle.node_crew.specs.contracts.crews.Crew.TheInside as Inside

pub crew_send : IsSend Crew.the_row
crew_send =
    let T = Inside.the_type in
    let sent = station_send Node.the_row ghosts node_sent in
    view_send _ _ _ _ _ (recorded_send _ _ T.to T.to_one (struct_send (shape T) (Vec-send (Station.the_row Node.the_row ghosts) sent, tt)))

-- what a closure over five values captures
pub captured_send : (ν : List ℕ) (A B C D E : RattleType)
    → IsSend A → IsSend B → IsSend C → IsSend D → IsSend E → IsSend (TupleAt ν (A ∷ B ∷ C ∷ D ∷ E ∷ []))
captured_send ν A B C D E a b c d e =
    let T = type_at ν (A ∷ B ∷ C ∷ D ∷ E ∷ []) in
    recorded_send _ _ T.to T.to_one (struct_send (shape T) (a, (b, (c, (d, (e, tt))))))
