use Rattle.std.proofs.Common.{map, take}
use Rattle.owned_places.specs.Holdings.{test_of}
use Rattle.pair_messages.specs.Classes.{AreCommonFrom}
use Rattle.pair_messages.proofs.places.classes_of_axes.Given as goal

-- those of the axes so far
abbrev pub invariant-loop-axis : goal.invariant-loop-axis
invariant-loop-axis l = AreCommonFrom 0 (take l.axis l.extents) (test_of l.one) (test_of l.other) (map (λ v. v.items) l.lists.items)
