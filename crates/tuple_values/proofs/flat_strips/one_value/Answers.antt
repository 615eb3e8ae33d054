use Rattle.std.proofs.Common.{subst, sym}
use Rattle.node_code.specs.Texts.{flat}
use Rattle.tuple_values.specs.FormStrips.{FlatValues}
use Rattle.tuple_values.specs.Views.{statement}
use Rattle.tuple_values.proofs.FlatStrips.{fixed_values}
use Rattle.tuple_values.proofs.flat_strips.one_value.Goals as goal

pub returns : goal.returns
returns g c =
    subst (FlatValues (statement c.args.w.now) c.args.s (g.E.Elements.get c.args.elements.now) (flat c.args.f.now)) (sym c.in_ok-vs.ensures)
    (fixed_values (statement c.args.w.now) c.args.s (g.E.Elements.get c.args.elements.now) (flat c.args.f.now) c.args.v.now c.requires.fixed c.requires.value)
