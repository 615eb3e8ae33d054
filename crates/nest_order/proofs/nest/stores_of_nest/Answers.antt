use Rattle.nest_order.proofs.Observing.{stores_noted, faults_noted}
use Rattle.nest_order.proofs.nest.stores_of_nest.Goals as goal

pub returns-clause-finishes : goal.returns-clause-finishes
returns-clause-finishes g c interpretation names written start row n parts items note first free enough unnoted =
    stores_noted interpretation names written start row n items free parts enough note unnoted first

pub returns-clause-faults : goal.returns-clause-faults
returns-clause-faults g c interpretation names written start row n parts items note first i j fault free enough unnoted =
    faults_noted interpretation names written start row n items free parts enough note unnoted first i j fault
