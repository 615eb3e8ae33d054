use Rattle.std.proofs.Common.{subst, IfOk, IfSome}
use Rattle.tuple_values.specs.FormStrips.{FlatValues}
use Rattle.tuple_values.specs.Views.{statement}
use Rattle.tuple_values.proofs.Operands.{operated_is}
use Rattle.tuple_values.proofs.flat_strips.+flat_strip.Goals as goal

pub flat_strip-returns-in-Operated : goal.flat_strip-returns-in-Operated
flat_strip-returns-in-Operated g t c =
    subst (λ f. IfOk c.operated_strip.result (λ p. IfSome p (λ vs. FlatValues (statement c.args.w.now) c.args.s (g.E.Elements.get c.args.elements.now) f vs.items)))
    (operated_is c.args.f.now c.in-Operated.op c.in-Operated.fs c.in-Operated.is) c.operated_strip.ensures
