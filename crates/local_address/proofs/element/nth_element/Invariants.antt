use Rattle.std.proofs.Common.{◌≡◌, drop, length, map, take, unsigned_abs}
use Rattle.hpf_base.specs.ElementOrder.{index_at}
use Rattle.hpf_base.proofs.Places.{place_at}
use Rattle.local_address.proofs.element.nth_element.Given as goal

-- the first subscripts are written, and what is left of the number has the other places
abbrev pub invariant-loop-dim : goal.invariant-loop-dim
invariant-loop-dim l = record {
  long : length l.index ≡ 7;
  written : take l.dim l.index ≡ take l.dim (index_at l.lower (place_at (map unsigned_abs l.extent) l.fn.number));
  left : place_at (drop l.dim (map unsigned_abs l.extent)) l.rest ≡ drop l.dim (place_at (map unsigned_abs l.extent) l.fn.number);
}
