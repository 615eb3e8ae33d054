use Rattle.std.proofs.Common.{◌≡◌, ◌-◌, ◌<◌, All, drop, length, map}
use Rattle.hpf_base.specs.ElementOrder.{extents_of, product}
use Rattle.axis_products.specs.Products.{combined, number_at, passing}
use Rattle.owner_tables.proofs.ColumnLaws.{own_at}
use Rattle.owner_tables.proofs.positions.positions.Given as goal

-- the numbers of the tuples of the slower dimensions
abbrev pub invariant-loop-done : goal.invariant-loop-done
invariant-loop-done l =
    (l.positions.items
    ≡ map (number_at (drop (length l.shape.lower - l.done) (extents_of l.shape)))
    (combined (passing (own_at l.mapping l.shape.lower l.node) (length l.shape.lower - l.done) (drop (length l.shape.lower - l.done) (extents_of l.shape)))))
    × All (λ n. n < product (drop (length l.shape.lower - l.done) (extents_of l.shape))) l.positions.items
