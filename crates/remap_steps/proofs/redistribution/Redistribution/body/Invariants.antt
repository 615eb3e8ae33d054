use Rattle.std.proofs.Common.{◌≡◌, map, take}
use Rattle.machine_steps.specs.Node.{local_read}
use Rattle.storage.specs.Spots.{spot_of}
use Rattle.remap_steps.proofs.redistribution.Redistribution.body.Given as goal

abbrev pub invariant-loop-spot : goal.invariant-loop-spot
invariant-loop-spot l = l.values.items ≡ map (local_read l.fn.self.old l.fn.self.id l.pieces) (map spot_of (take l.spot-index l.spots))
