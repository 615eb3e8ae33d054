use Rattle.std.proofs.Common.{◌≡◌}
use Rattle.node_code.specs.Texts.{subs}
use Rattle.tuple_values.specs.Views.{statement}
use Rattle.tuple_values.proofs.FormStrips.{right_section}
use Rattle.tuple_values.proofs.form_strips.right_strip.Goals as goal

pub returns-in-Section : goal.returns-in-Section
returns-in-Section g c =
    right_section (statement c.args.w.now) c.args.s (g.E.Elements.get c.args.elements.now) (λ v. v.items) c.line_strip.result c.args.lines.now c.line_strip.ensures
    c.args.w.now.right c.in-Section.field-0 c.in-Section.field-1 c.in-Section.is
