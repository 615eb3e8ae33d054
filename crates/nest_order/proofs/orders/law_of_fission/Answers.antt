use Rattle.nest_order.proofs.Parting.{fission_finishes, fission_faults, none_or_least}
use Rattle.nest_order.proofs.orders.law_of_fission.Goals as goal

pub returns-clause-finishes : goal.returns-clause-finishes
returns-clause-finishes g c act start n parts touches = fission_finishes act start n parts touches

pub returns-clause-faults : goal.returns-clause-faults
returns-clause-faults g c act start n parts touches i j fault free = fission_faults act start n parts touches free i j fault

pub returns-clause-either : goal.returns-clause-either
returns-clause-either g c = none_or_least
