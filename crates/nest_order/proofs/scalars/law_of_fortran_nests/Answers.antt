use Rattle.nest_order.proofs.WholeNest.{whole_finishes, whole_faults}
use Rattle.nest_order.proofs.scalars.law_of_fortran_nests.Goals as goal

pub returns-clause-finishes : goal.returns-clause-finishes
returns-clause-finishes g c one kinds reads written reducing start n items names writes conditions parts may free enough =
    whole_finishes one kinds reads written reducing start n items may names writes conditions parts free enough

pub returns-clause-faults : goal.returns-clause-faults
returns-clause-faults g c one kinds reads written reducing start n items names writes conditions parts i j fault may free enough =
    whole_faults one kinds reads written reducing start n items may names writes conditions parts free enough i j fault
