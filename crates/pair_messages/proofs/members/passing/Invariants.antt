use Rattle.std.proofs.Common.{◌≡◌, ◌&&◌, filter, take}
use Rattle.owned_places.specs.Holdings.{test_of}
use Rattle.pair_messages.proofs.members.passing.Given as goal

-- those of the places so far
abbrev pub invariant-loop-place : goal.invariant-loop-place
invariant-loop-place l = l.places.items ≡ filter (λ x. (test_of l.one).at l.axis x && (test_of l.other).at l.axis x) (take l.place-index l.members)
