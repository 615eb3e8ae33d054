use Rattle.std.proofs.Common.{◌≡◌, subst, Ok, IfOk, IfErr}
use Rattle.term_values.specs.Stops.{IsStop}
use Rattle.slot_values.proofs.Operands.{operation_value_is}
use Rattle.slot_values.proofs.expressions.+flat_value.Goals as goal

pub flat_value-returns-in-Operated-clause-value : goal.flat_value-returns-in-Operated-clause-value
flat_value-returns-in-Operated-clause-value t c =
    subst (λ r. IfOk c.operation_value.result (λ v. r ≡ Ok v)) (operation_value_is c.args.slots.now c.args.axes.now c.args.f.now c.in-Operated.op c.in-Operated.operands c.in-Operated.is) c.operation_value.ensures.value

pub flat_value-returns-in-Operated-clause-stopped : goal.flat_value-returns-in-Operated-clause-stopped
flat_value-returns-in-Operated-clause-stopped t c =
    subst (λ r. IfErr c.operation_value.result (IsStop r)) (operation_value_is c.args.slots.now c.args.axes.now c.args.f.now c.in-Operated.op c.in-Operated.operands c.in-Operated.is) c.operation_value.ensures.stopped
