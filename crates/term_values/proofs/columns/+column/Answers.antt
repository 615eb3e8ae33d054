use Rattle.std.proofs.Common.{◌≡◌, subst, Ok, IfOk, IfSome}
use Rattle.array_meaning.specs.Elementals.{values_over}
use Rattle.term_values.specs.States.{state_of}
use Rattle.term_values.proofs.Operands.{operation_elemental}
use Rattle.term_values.proofs.columns.+column.Goals as goal

pub column-returns-in-Operation : goal.column-returns-in-Operation
column-returns-in-Operation t c =
    subst (λ y. IfOk c.operation_column.result (λ p. IfSome p (λ vs. values_over (state_of c.args.s.now) c.args.ns.now y c.args.n ≡ Ok vs.items)))
    (operation_elemental c.args.x.now c.in-Operation.op c.in-Operation.xs c.in-Operation.is) c.operation_column.ensures
