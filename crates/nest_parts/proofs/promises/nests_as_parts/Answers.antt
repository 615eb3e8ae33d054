use Rattle.nest_parts.proofs.Parts.{nest_finishes, nest_faults}
use Rattle.nest_parts.proofs.promises.nests_as_parts.Goals as goal

pub returns-clause-finishes : goal.returns-clause-finishes
returns-clause-finishes c kinds all s nest line loop block body start row parts h none = nest_finishes kinds all s nest line loop block body start row parts h none

pub returns-clause-faults : goal.returns-clause-faults
returns-clause-faults c kinds all s nest line loop block body start row parts i j fault h least = nest_faults kinds all s nest line loop block body start row parts h i j fault least
