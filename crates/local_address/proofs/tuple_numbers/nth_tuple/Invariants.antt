use Rattle.std.proofs.Common.{◌≡◌, drop, length, map, take}
use Rattle.hpf_base.proofs.Places.{place_at}
use Rattle.local_address.proofs.TupleLaws.{picked}
use Rattle.local_address.proofs.tuple_numbers.nth_tuple.Given as goal

-- the first subscripts are written, and what is left of the number has the other places
abbrev pub invariant-loop-dim : goal.invariant-loop-dim
invariant-loop-dim l = record {
  long : length l.tuple ≡ 7;
  written : take l.dim l.tuple ≡ take l.dim (picked l.dims (place_at (map length l.dims) l.fn.number));
  left : place_at (drop l.dim (map length l.dims)) l.rest ≡ drop l.dim (place_at (map length l.dims) l.fn.number);
}
