use Rattle.std.proofs.Common.{◌≡◌, ◌&&◌, nat_lt, map}
use Rattle.storage.specs.Storage.{Spot}
use Rattle.storage.specs.Spots.{spot_of}
use Rattle.message_elements.specs.Elements.{is_among}
use Rattle.pair_messages.specs.Moved.{is_moved}
use Rattle.pair_messages.proofs.remapping.Ends.moved.Given as goal

-- what is sent of the rows so far
abbrev pub invariant-loop-row : goal.invariant-loop-row
invariant-loop-row l = (s : Spot) → is_among (map spot_of l.spots.items) s
    ≡ (nat_lt s.row l.row && is_moved l.self.before.now.nodes l.self.before.now.layouts l.self.after.now.layouts l.self.from l.self.to s)
