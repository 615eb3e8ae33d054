use Rattle.std.proofs.Common.{◌&&◌, map, take}
use Rattle.course_forms.specs.Views.{courses_of}
use Rattle.owned_places.specs.Holdings.{test_of}
use Rattle.pair_messages.specs.Enough.{AreEnoughFrom, moves_on}
use Rattle.pair_messages.proofs.places.lists_of.Given as goal

-- those of the axes so far
abbrev pub invariant-loop-axis : goal.invariant-loop-axis
invariant-loop-axis l = AreEnoughFrom (moves_on (courses_of l.courses)) (λ axis x. (test_of l.one).at axis x && (test_of l.other).at axis x)
    0 (take l.axis l.extents) (map (λ v. v.items) l.lists.items)
