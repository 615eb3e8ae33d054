use Rattle.nest_parts.proofs.Parts.{entered_copies}
use Rattle.nest_parts.proofs.promises.nests_may_copy.Goals as goal

pub returns : goal.returns
returns c kinds all s nest loop block body start row parts h = entered_copies kinds all s nest 0 loop block body start row parts h
