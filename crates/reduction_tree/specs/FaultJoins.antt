-- Of a promise.
-- Kept faults join.
use Rattle.std.proofs.Common.{◌≡◌, None}
use Rattle.std.proofs.lemmas.Cmp.{then_total, on_total, nat_cmp_total}
use Rattle.std.specs.Cmp.{IsTotalOrder}
use Rattle.std.specs.Ordering.{nat_cmp, ordering_then}
use Rattle.std.specs.declared.cmp.Ordering.TheVariants.{Equal}
use Rattle.op_tables.specs.Joins.{IsJoin}
use Rattle.reduction_tree.specs.declared.kept_fault.KeptFault.{KeptFault}
use Rattle.reduction_tree.specs.FaultOrder.{fault_order}
use Rattle.reduction_tree.specs.FirstOf.{first_of}
use Rattle.reduction_tree.specs.FirstJoins.{first_joins, both-equal, nat-equal}

faults_total : IsTotalOrder fault_order
faults_total =
    then_total (on_total (λ (k : KeptFault). k.tuple) nat_cmp_total)
    (then_total (on_total (λ (k : KeptFault). k.place) nat_cmp_total) (on_total (λ (k : KeptFault). k.fault) nat_cmp_total))

faults_apart : (x y : KeptFault) → fault_order x y ≡ Equal → x ≡ y
faults_apart x y is =
    let outer = both-equal (nat_cmp x.tuple y.tuple) (ordering_then (nat_cmp x.place y.place) (nat_cmp x.fault y.fault)) is in
    let inner = both-equal (nat_cmp x.place y.place) (nat_cmp x.fault y.fault) outer.1 in
    λ i. record { tuple = nat-equal x.tuple y.tuple outer.0 i; place = nat-equal x.place y.place inner.0 i; fault = nat-equal x.fault y.fault inner.1 i }

pub faults_join : IsJoin (λ _. Unit {0}) (first_of fault_order) None
faults_join = first_joins fault_order faults_total faults_apart
