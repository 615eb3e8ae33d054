use Rattle.std.proofs.Common.{◌≡◌, ◌+◌, ◌++◌, map, take}
use Rattle.axis_walks.proofs.rows.push_row.Given as goal

abbrev pub invariant-loop-place : goal.invariant-loop-place
invariant-loop-place l = l.tuples.items ≡ l.initial.tuples.items ++ map (λ p. l.first + p) (take l.place-index l.places)
