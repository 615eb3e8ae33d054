use Rattle.std.proofs.Common.{◌≡◌, drop, map}
use Rattle.aligned_copies.specs.Beside.{are_apart}
use Rattle.copy_anchors.specs.Anchors.{align_of}
use Rattle.copy_anchors.proofs.axes.are_apart.Given as goal

-- those that are left decide
abbrev pub invariant-loop-k : goal.invariant-loop-k
invariant-loop-k l = are_apart (map align_of l.subscripts) ≡ are_apart (map align_of (drop l.k l.subscripts))
