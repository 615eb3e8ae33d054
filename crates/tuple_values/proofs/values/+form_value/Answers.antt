use Rattle.std.proofs.Common.{◌≡◌, subst, Ok, IfOk, IfErr}
use Rattle.term_values.specs.Stops.{IsStop}
use Rattle.tuple_values.specs.Here.{value_here}
use Rattle.tuple_values.proofs.Operands.{operation_is}
use Rattle.tuple_values.proofs.values.+form_value.Goals as goal

pub form_value-returns-in-Operation-clause-value : goal.form_value-returns-in-Operation-clause-value
form_value-returns-in-Operation-clause-value g t c =
    subst (λ f. IfOk c.operation_value.result (λ v. value_here c.args.here.now (g.E.Elements.get c.args.elements.now) f ≡ Ok v))
    (operation_is c.args.f.now c.in-Operation.op c.in-Operation.fs c.in-Operation.is) c.operation_value.ensures.value

pub form_value-returns-in-Operation-clause-stopped : goal.form_value-returns-in-Operation-clause-stopped
form_value-returns-in-Operation-clause-stopped g t c =
    subst (λ f. IfErr c.operation_value.result (IsStop (value_here c.args.here.now (g.E.Elements.get c.args.elements.now) f)))
    (operation_is c.args.f.now c.in-Operation.op c.in-Operation.fs c.in-Operation.is) c.operation_value.ensures.stopped
