use Rattle.std.proofs.Common.{map, take}
use Rattle.storage.specs.Spots.{spot_of}
use Rattle.course_forms.specs.Views.{named_of}
use Rattle.pair_messages.specs.Sent.{AreAdded, is_named_among}
use Rattle.pair_messages.proofs.elements.add_named.Given as goal

-- what is named at the tuples so far
abbrev pub invariant-loop-tuple : goal.invariant-loop-tuple
invariant-loop-tuple l =
    AreAdded (is_named_among l.extents (named_of l.reference) (take l.tuple-index l.tuples)) (map spot_of l.fn.spots.items) (map spot_of l.spots.items)
