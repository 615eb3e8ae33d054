use Rattle.std.proofs.Common.{◌≤◌, drop, length, map}
use Rattle.axis_walks.specs.Rows.{ArePicked, both, first_alone}
use Rattle.axis_walks.proofs.beyond.tuples_beyond.Given as goal

-- the tuples on the axes from this one on
abbrev pub invariant-loop-axis : goal.invariant-loop-axis
invariant-loop-axis l =
    (1 ≤ l.axis) × (l.axis ≤ length l.extents)
    × ArePicked both (drop l.axis l.extents) (drop l.axis (map (λ v. v.items) l.outer)) (drop l.axis (map (λ v. v.items) l.inner)) l.split.within.items
    × ArePicked first_alone (drop l.axis l.extents) (drop l.axis (map (λ v. v.items) l.outer)) (drop l.axis (map (λ v. v.items) l.inner)) l.split.beyond.items
