use Rattle.std.proofs.Common.{◌≡◌, ℕ, ◌&&◌, false, take}
use Rattle.owned_places.specs.Holdings.{test_of}
use Rattle.pair_messages.specs.Classes.{InSome}
use Rattle.pair_messages.proofs.members.first_passing.Given as goal

-- none of those so far passes
abbrev pub invariant-loop-class : goal.invariant-loop-class
invariant-loop-class l = (x : ℕ) → InSome (take l.class-index l.classes) x → ((test_of l.one).at l.axis x && (test_of l.other).at l.axis x) ≡ false
