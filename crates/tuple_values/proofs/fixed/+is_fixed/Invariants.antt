use Rattle.std.proofs.Common.{◌≡◌, drop}
use Rattle.node_code.specs.Texts.{flats_of}
use Rattle.tuple_values.specs.Fixed.{are_fixed}
use Rattle.tuple_values.proofs.fixed.+is_fixed.Given as goal

-- those that are left decide
abbrev pub invariant-are_fixed-loop-f : goal.invariant-are_fixed-loop-f
invariant-are_fixed-loop-f l = are_fixed (flats_of l.f-items) ≡ are_fixed (flats_of (drop l.f-index l.f-items))
