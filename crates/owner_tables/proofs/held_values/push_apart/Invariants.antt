use Rattle.std.proofs.Common.{◌≡◌, ◌+◌, ◌*◌, ◌<◌, ◌++◌, map, pos, slice_index_or}
use Rattle.std.specs.List.{range_with_len}
use Rattle.owner_tables.proofs.held_values.push_apart.Given as goal

-- the values so far, and the address of the next
abbrev pub invariant-loop-k : goal.invariant-loop-k
invariant-loop-k l = record {
  at : l._k < l.count → l.at ≡ l.first + l._k * l.step;
  values : l.values.items ≡ l.initial.values.items ++ map (λ k. slice_index_or l.piece (l.first + k * l.step) (pos 0)) (range_with_len 0 l._k);
}
