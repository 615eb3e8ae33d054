-- Of the claim.
-- What is assigned at the tuples of a space, beside which copies lie, over the slots.
use Rattle.std.specs.Prelude.{ℕ, List}
use Rattle.node_code.specs.Flat.{Flat}

-- a subscript: a value, in which the axes of the space may stand, or a triplet by its first value and its stride, which goes along the next axis
pub data AnchorSub : Type 0 where
  AnchorAt : Flat → AnchorSub
  AnchorAlong : (first stride : Flat) → AnchorSub

-- an array, by the place of its name, and its subscripts
pub record FlatAnchor : Type 0 where
  pub array : ℕ
  pub subscripts : List AnchorSub
