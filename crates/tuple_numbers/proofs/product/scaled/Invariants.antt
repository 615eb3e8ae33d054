use Rattle.std.proofs.Common.{◌≡◌, ◌*◌, map, take}
use Rattle.tuple_numbers.proofs.product.scaled.Given as goal

abbrev pub invariant-loop-place : goal.invariant-loop-place
invariant-loop-place l = l.scaled.items ≡ map (λ p. l.factor * p) (take l.place-index l.list)
