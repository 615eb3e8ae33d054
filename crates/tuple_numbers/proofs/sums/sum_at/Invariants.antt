use Rattle.std.proofs.Common.{◌≡◌, ◌+◌, ◌<◌, length, map, drop, get_or}
use Rattle.tuple_numbers.specs.Sums.{sums}
use Rattle.tuple_numbers.proofs.sums.sum_at.Given as goal

-- the sum so far with the one that is left of the further lists
abbrev pub invariant-loop-list : goal.invariant-loop-list
invariant-loop-list l = record {
  within : l.left < length (sums (map (λ v. v.items) (drop l.list-index l.lists)));
  value : l.sum + get_or (sums (map (λ v. v.items) (drop l.list-index l.lists))) l.left 0 ≡ get_or (sums (map (λ v. v.items) l.lists)) l.number 0;
}
