use Rattle.std.proofs.Common.{◌≡◌, ◌++◌, drop, length, map, option_map}
use Rattle.copy_anchors.specs.Anchors.{align_of}
use Rattle.copy_anchors.specs.Settled.{inside_subscripts}
use Rattle.copy_anchors.proofs.good.inside_subscripts.Given as goal

-- what is settled so far, before what is left, is what all come to
abbrev pub invariant-loop-k : goal.invariant-loop-k
invariant-loop-k l = record {
  same : option_map (λ rest. l.settled.items ++ rest)
      (inside_subscripts l.extents (drop l.k l.shape.lower) (drop l.k l.shape.extent) (map align_of (drop l.k l.subscripts)))
      ≡ inside_subscripts l.extents l.shape.lower l.shape.extent (map align_of l.subscripts);
  long : length l.shape.lower ≡ length l.subscripts;
}
