-- Of a promise.
-- Values at positions join.
use Rattle.std.proofs.Common.{◌≡◌, None, sym}
use Rattle.std.proofs.lemmas.Cmp.{then_total, on_total, back_total, nat_cmp_total, int_cmp_total}
use Rattle.std.specs.Cmp.{IsTotalOrder}
use Rattle.std.specs.Ordering.{nat_cmp, int_cmp}
use Rattle.std.specs.declared.cmp.Ordering.TheVariants.{Equal}
use Rattle.op_tables.specs.Joins.{IsJoin}
use Rattle.reduction_tree.specs.declared.placed.Placed.{Placed}
use Rattle.reduction_tree.specs.LastOrder.{last_order}
use Rattle.reduction_tree.specs.FirstOf.{first_of}
use Rattle.reduction_tree.specs.FirstJoins.{first_joins, both-equal, nat-equal, int-equal}

values_total : IsTotalOrder last_order
values_total = back_total (then_total (on_total (λ (x : Placed). x.position) nat_cmp_total) (on_total (λ (x : Placed). x.value) int_cmp_total))

values_apart : (x y : Placed) → last_order x y ≡ Equal → x ≡ y
values_apart x y is =
    let both = both-equal (nat_cmp y.position x.position) (int_cmp y.value x.value) is in
    λ i. record { position = sym (nat-equal y.position x.position both.0) i; value = sym (int-equal y.value x.value both.1) i }

pub values_join : IsJoin (λ _. Unit {0}) (first_of last_order) None
values_join = first_joins last_order values_total values_apart
