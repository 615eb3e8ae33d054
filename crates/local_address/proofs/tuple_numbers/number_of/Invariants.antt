use Rattle.std.proofs.Common.{◌≡◌, ℕ, ◌+◌, ◌*◌, ◌<◌, ℤ, List, ◌++◌, length, map, drop, take, Some, slice_get}
use Rattle.hpf_base.specs.ElementOrder.{product}
use Rattle.local_address.specs.Runs.{tuples}
use Rattle.local_address.proofs.tuple_numbers.number_of.Given as goal

-- the number by the dimensions so far, to which that by the dimensions that are left is added, times the stride
abbrev pub invariant-loop-dim : goal.invariant-loop-dim
invariant-loop-dim l = record {
  stride : l.stride ≡ product (map length (take l.dim l.dims));
  below : l.number < l.stride;
  found : (a : ℕ) (rest : List ℤ) → slice_get (tuples (drop l.dim l.dims)) a ≡ Some rest
      → slice_get (tuples l.dims) (l.number + l.stride * a) ≡ Some (take l.dim l.tuple ++ rest);
}
