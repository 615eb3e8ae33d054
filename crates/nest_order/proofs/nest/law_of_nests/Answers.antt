use Rattle.nest_order.proofs.Following.{nest_finishes, nest_faults}
use Rattle.nest_order.proofs.nest.law_of_nests.Goals as goal

pub returns-clause-finishes : goal.returns-clause-finishes
returns-clause-finishes g c interpretation names written start row n parts items free enough = nest_finishes interpretation names written start row n items free parts enough

pub returns-clause-faults : goal.returns-clause-faults
returns-clause-faults g c interpretation names written start row n parts items i j fault free enough =
    nest_faults interpretation names written start row n items free parts enough i j fault
