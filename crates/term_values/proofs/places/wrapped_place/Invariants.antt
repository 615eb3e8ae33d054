use Rattle.std.proofs.Common.{◌≡◌, ◌≤◌, length, drop, Some}
use Rattle.array_meaning.specs.State.{element_place}
use Rattle.term_values.specs.Places.{in_64_bits}
use Rattle.term_values.proofs.places.wrapped_place.Given as goal

-- the place by the subscripts from here on
abbrev pub invariant-loop-l : goal.invariant-loop-l
invariant-loop-l l = (l.l ≤ length l.dims) × (in_64_bits (element_place (drop l.l l.dims) (drop l.l l.subscripts)) ≡ Some l.place)
