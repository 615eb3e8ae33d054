use Rattle.nest_order.proofs.LastCopy.{last_copy}
use Rattle.nest_order.proofs.last_value.last_value_of_scalar.Goals as goal

pub returns : goal.returns
returns g c act start n parts touches row entry free within = last_copy act start n parts touches free row within entry
