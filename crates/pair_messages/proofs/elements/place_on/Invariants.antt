use Rattle.std.proofs.Common.{◌≡◌, ◌-◌, ◌<◌, ◌≤◌, drop, length, slice_index_or}
use Rattle.hpf_base.specs.ElementOrder.{product}
use Rattle.axis_products.specs.Products.{places_at}
use Rattle.pair_messages.proofs.elements.place_on.Given as goal

-- what is left of the tuple's number has the same place on the axis
abbrev pub invariant-loop-faster : goal.invariant-loop-faster
invariant-loop-faster l = (l.rest ≤ l.tuple) × (l.rest < product (drop l.faster l.extents)) × (l.faster ≤ l.axis) × (l.axis < length l.extents)
    × (slice_index_or (places_at (drop l.faster l.extents) l.rest) (l.axis - l.faster) 0 ≡ slice_index_or (places_at l.extents l.tuple) l.axis 0)
