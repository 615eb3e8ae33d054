-- Of a promise.
-- The order of values at positions, the last position first.
use Rattle.std.specs.Ordering.{nat_cmp, int_cmp, on, then_cmp, flip_args}
use Rattle.std.specs.declared.cmp.Ordering.{Ordering}
use Rattle.reduction_tree.specs.declared.placed.Placed.{Placed}

-- the later position first, and of one position the greater value, so that no two are alike
abbrev pub last_order : Placed → Placed → Ordering
last_order = flip_args (then_cmp (on (λ (x : Placed). x.position) nat_cmp) (on (λ (x : Placed). x.value) int_cmp))
