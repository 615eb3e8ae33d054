use Rattle.std.proofs.Common.{◌≡◌, ◌≤◌, map}
use Rattle.std.specs.List.{range_with_len, filter}
use Rattle.machine_steps.specs.Node.{parcel}
use Rattle.storage.specs.Spots.{spot_of}
use Rattle.node_machine.specs.Fetches.{fetch_sends}
use Rattle.node_machine.proofs.fetches.fetched_parcels.Given as goal

abbrev pub invariant-loop-node : goal.invariant-loop-node
invariant-loop-node l =
    (l.outbox.items ≡ map (parcel (λ q. l.values)) (filter (fetch_sends l.owners.nodes l.owners.layouts (spot_of l.spot) l.id) (range_with_len 0 l.node))) × (l.node ≤ l.owners.nodes)
