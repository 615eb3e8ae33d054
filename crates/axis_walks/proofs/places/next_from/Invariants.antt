use Rattle.std.proofs.Common.{ℕ, ◌<◌, ◌≤◌, length, get_or}
use Rattle.axis_walks.proofs.places.next_from.Given as goal

-- the places so far are less
abbrev pub invariant-loop-at : goal.invariant-loop-at
invariant-loop-at l = (l.from ≤ l.at) × (l.at ≤ length l.places) × ((k : ℕ) → l.from ≤ k → k < l.at → get_or l.places k 0 < l.place)
