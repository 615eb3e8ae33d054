use Rattle.std.proofs.Common.{◌≡◌, true}
use Rattle.slot_values.specs.Elements.{inside_to}
use Rattle.slot_values.specs.Tested.{has_value}
use Rattle.slot_values.proofs.section_bounds.first_inside.Given as goal

-- those so far are in bounds
abbrev pub invariant-loop-t : goal.invariant-loop-t
invariant-loop-t l = has_value (inside_to l.shapes l.array l.ds l.ns l.t) ≡ true
