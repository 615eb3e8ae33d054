use Rattle.std.proofs.Common.{subst, IfOk, IfSome}
use Rattle.term_values.specs.States.{state_of}
use Rattle.term_values.proofs.Operands.{operation_elemental}
use Rattle.strip_operators.specs.Strips.{IsStrip}
use Rattle.strips.specs.Strips.{row_value}
use Rattle.strips.proofs.expression_strips.+strip.Goals as goal

pub strip-returns-in-Operation : goal.strip-returns-in-Operation
strip-returns-in-Operation t c =
    subst (λ y. IfOk c.operation_strip.result (λ p. IfSome p (λ vs. IsStrip (row_value (state_of c.args.s.now) y c.args.u c.args.rest.now) c.args.n vs.items)))
    (operation_elemental c.args.x.now c.in-Operation.op c.in-Operation.xs c.in-Operation.is) c.operation_strip.ensures
