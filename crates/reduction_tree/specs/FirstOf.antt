-- Of a promise.
-- The first of items in an order.
use Rattle.std.specs.Prelude.{Option, Some, None, if◌then◌else◌}
use Rattle.std.specs.Ordering.{is_gt}
use Rattle.std.specs.declared.cmp.Ordering.{Ordering}

-- of two items, either of which may be missing, the first in the order
abbrev pub first_of : {K : Type 0} → (K → K → Ordering) → Option K → Option K → Option K
first_of R None b = b
first_of R (Some x) None = Some x
first_of R (Some x) (Some y) = Some (if is_gt (R x y) then y else x)
