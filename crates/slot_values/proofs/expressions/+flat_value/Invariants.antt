use Rattle.std.proofs.Common.{◌≡◌, drop, []}
use Rattle.code_meaning.specs.Flat.{flat_values}
use Rattle.node_code.specs.Texts.{flats_of}
use Rattle.term_values.proofs.InOrder.{prefixed}
use Rattle.slot_values.proofs.expressions.+flat_value.Given as goal

-- the values so far, before those that are left
abbrev pub invariant-flat_values-loop-f : goal.invariant-flat_values-loop-f
invariant-flat_values-loop-f l =
    flat_values l.slots l.axes [] (flats_of l.f-items) ≡ prefixed l.vs.items (flat_values l.slots l.axes [] (flats_of (drop l.f-index l.f-items)))
