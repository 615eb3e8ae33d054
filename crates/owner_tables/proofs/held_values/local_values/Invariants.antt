use Rattle.std.proofs.Common.{◌≡◌, map, take}
use Rattle.machine_steps.specs.Node.{local_read}
use Rattle.storage.specs.Spots.{spot_of}
use Rattle.owner_tables.proofs.held_values.local_values.Given as goal

abbrev pub invariant-loop-spot : goal.invariant-loop-spot
invariant-loop-spot l = l.values.items ≡ map (local_read l.owners.layouts l.id l.pieces) (map spot_of (take l.spot-index l.spots))
