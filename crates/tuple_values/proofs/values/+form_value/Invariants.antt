use Rattle.std.proofs.Common.{◌≡◌, drop}
use Rattle.node_code.specs.Texts.{forms_of}
use Rattle.term_values.proofs.InOrder.{prefixed}
use Rattle.tuple_values.specs.Here.{values_here}
use Rattle.tuple_values.proofs.values.+form_value.Given as goal

-- the values so far, before those that are left
abbrev pub invariant-form_values-loop-f : goal.invariant-form_values-loop-f
invariant-form_values-loop-f g l =
    values_here l.here (g.E.Elements.get l.elements) (forms_of l.f-items) ≡ prefixed l.vs.items (values_here l.here (g.E.Elements.get l.elements) (forms_of (drop l.f-index l.f-items)))
