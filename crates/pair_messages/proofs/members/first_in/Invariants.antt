use Rattle.std.proofs.Common.{◌≡◌, ℕ, ◌+◌, ◌*◌, ◌<◌, ◌&&◌, false}
use Rattle.owned_places.specs.Holdings.{test_of}
use Rattle.pair_messages.proofs.members.first_in.Given as goal

-- none of those so far passes
abbrev pub invariant-loop-n : goal.invariant-loop-n
invariant-loop-n l = (m : ℕ) → m < l.n
    → ((test_of l.one).at l.axis (l.class.first + l.class.stride * m) && (test_of l.other).at l.axis (l.class.first + l.class.stride * m)) ≡ false
