use Rattle.std.proofs.Common.{◌≡◌, ◌*◌, length, map, drop}
use Rattle.tuple_numbers.specs.Sums.{sums}
use Rattle.tuple_numbers.proofs.sums.count_of.Given as goal

abbrev pub invariant-loop-list : goal.invariant-loop-list
invariant-loop-list l = l.count * length (sums (map (λ v. v.items) (drop l.list-index l.lists))) ≡ l.width * length (sums (map (λ v. v.items) l.lists))
