use Rattle.std.proofs.Common.{◌≡◌, subst, Ok, IfOk, IfErr}
use Rattle.term_values.specs.States.{state_of}
use Rattle.term_values.specs.Stops.{IsStop}
use Rattle.term_values.proofs.Operands.{operation_at_is}
use Rattle.term_values.proofs.array_values.+value_at.Goals as goal

pub value_at-returns-in-Operation-clause-value : goal.value_at-returns-in-Operation-clause-value
value_at-returns-in-Operation-clause-value t c =
    subst (λ r. IfOk c.operation_at.result (λ v. r ≡ Ok v)) (operation_at_is (state_of c.args.s.now) c.args.tuple.now c.args.x.now c.in-Operation.op c.in-Operation.xs c.in-Operation.is) c.operation_at.ensures.value

pub value_at-returns-in-Operation-clause-stopped : goal.value_at-returns-in-Operation-clause-stopped
value_at-returns-in-Operation-clause-stopped t c =
    subst (λ r. IfErr c.operation_at.result (IsStop r)) (operation_at_is (state_of c.args.s.now) c.args.tuple.now c.args.x.now c.in-Operation.op c.in-Operation.xs c.in-Operation.is) c.operation_at.ensures.stopped
