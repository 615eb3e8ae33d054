use Rattle.std.proofs.Common.{[], subst}
use Rattle.scalar_values.specs.Known.{IsKnown}
use Rattle.slot_values.proofs.Operands.{operation_value_is}
use Rattle.slot_runs.proofs.expressions.+known_flat.Goals as goal

pub known_flat-returns-in-Operated : goal.known_flat-returns-in-Operated
known_flat-returns-in-Operated t c =
    subst (λ r. IsKnown r c.known_operation.result)
    (operation_value_is c.args.slots.now [] c.args.f.now c.in-Operated.op c.in-Operated.operands c.in-Operated.is) c.known_operation.ensures
