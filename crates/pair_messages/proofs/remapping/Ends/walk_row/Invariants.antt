use Rattle.std.proofs.Common.{◌&&◌, nat_eq, map, take}
use Rattle.std.specs.List.{list_any}
use Rattle.storage.specs.Spots.{spot_of}
use Rattle.pair_messages.specs.Moved.{is_moved}
use Rattle.pair_messages.specs.Sent.{AreAdded}
use Rattle.pair_messages.proofs.remapping.Ends.walk_row.Given as goal

-- what is sent of the elements so far
abbrev pub invariant-loop-at : goal.invariant-loop-at
invariant-loop-at l = AreAdded (λ s. (nat_eq l.row s.row && list_any (λ at. nat_eq at s.at) (take l.at-index l.at-items))
    && is_moved l.self.before.now.nodes l.self.before.now.layouts l.self.after.now.layouts l.self.from l.self.to s) (map spot_of l.fn.spots.items) (map spot_of l.spots.items)
