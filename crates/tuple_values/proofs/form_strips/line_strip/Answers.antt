use Rattle.std.proofs.Common.{◌≡◌, ◌∷◌, []}
use Rattle.tuple_values.specs.Views.{statement}
use Rattle.tuple_values.proofs.FormStrips.{line_strips}
use Rattle.tuple_values.proofs.form_strips.line_strip.Goals as goal

pub returns : goal.returns
returns g c =
    line_strips (statement c.args.w.now) c.args.s (g.E.Elements.get c.args.elements.now) (λ v. v.items) c.line.result c.in-Some.line c.args.lines.now
    c.in-Some.ensures c.line.ensures
