-- Of a promise.
-- Lists of elements in order.
use Rattle.std.specs.List.Sorted.{IsStrictlySortedBy}
use Rattle.std.specs.declared.cmp.Ordering.{Ordering}
use Rattle.std.specs.Ordering.{nat_cmp, ordering_then}
use Rattle.std.specs.Prelude.{List}
use Rattle.storage.specs.Storage.{Spot}

-- row by row, each in array-element order
abbrev pub spot_cmp : Spot → Spot → Ordering
spot_cmp one other = ordering_then (nat_cmp one.row other.row) (nat_cmp one.at other.at)

-- each element once, in this order
abbrev pub Ascends : List Spot → Type 0
Ascends spots = IsStrictlySortedBy spot_cmp spots
