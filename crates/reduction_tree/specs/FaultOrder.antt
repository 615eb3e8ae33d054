-- Of a promise.
-- The order of kept faults.
use Rattle.std.specs.Ordering.{nat_cmp, on, then_cmp}
use Rattle.std.specs.declared.cmp.Ordering.{Ordering}
use Rattle.reduction_tree.specs.declared.kept_fault.KeptFault.{KeptFault}

-- by the number of the tuple, then by the place of the part, and then by the fault, so that no two are alike
abbrev pub fault_order : KeptFault → KeptFault → Ordering
fault_order = then_cmp (on (λ (k : KeptFault). k.tuple) nat_cmp) (then_cmp (on (λ (k : KeptFault). k.place) nat_cmp) (on (λ (k : KeptFault). k.fault) nat_cmp))
