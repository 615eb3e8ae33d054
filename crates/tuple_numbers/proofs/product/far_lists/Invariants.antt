use Rattle.std.proofs.Common.{◌≡◌, ◌≤◌, ◌++◌, length, map, drop, get_or}
use Rattle.tuple_numbers.specs.Sums.{AreRoom, scaled}
use Rattle.tuple_numbers.proofs.product.far_lists.Given as goal

-- with those of the axes that are left, it is those of all axes
abbrev pub invariant-loop-axis : goal.invariant-loop-axis
invariant-loop-axis l = record {
  axes : l.axis ≤ length l.extents;
  room : AreRoom l.factor (drop l.axis l.extents) (drop l.axis (map (λ v. v.items) l.lists));
  lists : map (λ v. v.items) l.far.items ++ scaled l.factor (drop l.axis l.extents) (drop l.axis (map (λ v. v.items) l.lists))
      ≡ scaled (get_or l.extents 0 0) (drop 1 l.extents) (drop 1 (map (λ v. v.items) l.lists));
}
