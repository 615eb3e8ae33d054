use Rattle.std.proofs.Common.{subst, sym, IfOk, IfSome}
use Rattle.tuple_values.specs.FormStrips.{IsFormStrip}
use Rattle.tuple_values.specs.Views.{statement}
use Rattle.node_code.specs.Texts.{form, subs}
use Rattle.tuple_values.proofs.FormStrips.{for_section}
use Rattle.tuple_values.proofs.Operands.{operation_is}
use Rattle.tuple_values.proofs.form_strips.+form_strip.Goals as goal

pub form_strip-returns-in-Operation : goal.form_strip-returns-in-Operation
form_strip-returns-in-Operation g t c =
    subst (λ f. IfOk c.operation_strip.result (λ p. IfSome p (λ vs. IsFormStrip (statement c.args.w.now) c.args.s (g.E.Elements.get c.args.elements.now) f c.args.lines.now vs.items)))
    (operation_is c.args.f.now c.in-Operation.op c.in-Operation.fs c.in-Operation.is) c.operation_strip.ensures

pub form_strip-returns-in-Section : goal.form_strip-returns-in-Section
form_strip-returns-in-Section g t c =
    subst (λ f. IfOk c.line_strip.result (λ p. IfSome p (λ vs. IsFormStrip (statement c.args.w.now) c.args.s (g.E.Elements.get c.args.elements.now) (form f) c.args.lines.now vs.items)))
    (sym c.in-Section.is)
    (for_section (statement c.args.w.now) c.args.s (g.E.Elements.get c.args.elements.now) (λ v. v.items) c.line_strip.result c.args.lines.now c.line_strip.ensures c.in-Section.field-0
    (subs c.in-Section.field-1.items))
