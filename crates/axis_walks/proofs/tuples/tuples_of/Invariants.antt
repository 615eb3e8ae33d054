use Rattle.std.proofs.Common.{◌≡◌, ◌≤◌, drop, length, map}
use Rattle.axis_products.specs.Products.{combined, number_at}
use Rattle.axis_walks.proofs.tuples.tuples_of.Given as goal

-- the tuples on the axes from this one on
abbrev pub invariant-loop-axis : goal.invariant-loop-axis
invariant-loop-axis l =
    (l.axis ≤ length l.extents) × (l.tuples.items ≡ map (number_at (drop l.axis l.extents)) (combined (drop l.axis (map (λ v. v.items) l.lists))))
