use Rattle.std.proofs.Common.{◌<◌, ◌≤◌, get_or, ℕ}
use Rattle.copy_anchors.proofs.good.is_empty.Given as goal

-- no extent so far is 0
abbrev pub invariant-loop-extent : goal.invariant-loop-extent
invariant-loop-extent l = (k : ℕ) → k < l.extent-index → 1 ≤ get_or l.extents k 0
