use Rattle.std.proofs.Common.{◌≡◌, length, map, take}
use Rattle.hpf_base.specs.ElementOrder.{product}
use Rattle.local_address.proofs.tuple_numbers.tuple_number.Given as goal

-- how many tuples there are of the dimensions so far
abbrev pub invariant-loop-dim : goal.invariant-loop-dim
invariant-loop-dim l = l.count ≡ product (map length (take l.dim l.dims))
