use Rattle.std.proofs.Common.{◌≡◌, ◌&&◌, map}
use Rattle.storage.specs.Spots.{spot_of}
use Rattle.machine_steps.specs.Message.{any_below}
use Rattle.message_elements.specs.Elements.{is_among, is_sent}
use Rattle.storage.specs.Storage.{Spot}
use Rattle.course_forms.specs.Views.{named_of, names_of}
use Rattle.pair_messages.specs.Sent.{computes_named, is_named_of}
use Rattle.pair_messages.proofs.pair.Pair.walked.Given as goal

-- what is sent for the tuples so far
abbrev pub invariant-loop-tuple : goal.invariant-loop-tuple
invariant-loop-tuple l = (s : Spot) → is_among (map spot_of l.spots.items) s
    ≡ (any_below (λ t. computes_named l.self.takers.now.layouts l.self.extents.now (named_of l.self.left.now) l.self.to t
    && is_named_of l.self.extents.now (names_of l.reads) t s) l.tuple && is_sent l.self.owners.now.nodes l.self.owners.now.layouts l.self.from l.self.to s)
