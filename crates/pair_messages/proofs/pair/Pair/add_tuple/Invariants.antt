use Rattle.std.proofs.Common.{◌&&◌, map, take}
use Rattle.storage.specs.Spots.{spot_of}
use Rattle.message_elements.specs.Elements.{is_sent}
use Rattle.course_forms.specs.Views.{names_of}
use Rattle.pair_messages.specs.Sent.{AreAdded, is_named_of}
use Rattle.pair_messages.proofs.pair.Pair.add_tuple.Given as goal

-- what the references so far name, and is sent
abbrev pub invariant-loop-read : goal.invariant-loop-read
invariant-loop-read l =
    AreAdded (λ s. is_named_of l.self.extents.now (names_of (take l.read-index l.reads)) l.tuple s
    && is_sent l.self.owners.now.nodes l.self.owners.now.layouts l.self.from l.self.to s) (map spot_of l.fn.spots.items) (map spot_of l.spots.items)
