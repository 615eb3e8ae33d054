use Rattle.std.proofs.Common.{◌≡◌, map, take}
use Rattle.std.specs.List.{list_any}
use Rattle.storage.specs.Storage.{Spot}
use Rattle.storage.specs.Spots.{spot_of}
use Rattle.message_elements.specs.Elements.{is_among}
use Rattle.course_forms.specs.Views.{named_of, names_of}
use Rattle.visited_tuples.specs.Owned.{owns_named}
use Rattle.pair_messages.specs.Sent.{is_sent_of}
use Rattle.pair_messages.proofs.pair.Pair.sent.Given as goal

-- what is sent of the references so far
abbrev pub invariant-loop-read : goal.invariant-loop-read
invariant-loop-read l = (s : Spot) → is_among (map spot_of l.spots.items) s
    ≡ list_any (λ r. is_sent_of l.self.owners.now.nodes l.self.owners.now.layouts l.self.extents.now
    (owns_named l.self.takers.now.layouts l.self.to (named_of l.self.left.now)) l.self.from l.self.to r s) (names_of (take l.read-index l.reads))
