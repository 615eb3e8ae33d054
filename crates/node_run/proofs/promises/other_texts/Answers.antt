use Rattle.node_run.proofs.CodedSteps.{steps-coded, valid-coded}
use Rattle.node_run.proofs.promises.other_texts.Goals as goal

pub returns-clause-steps : goal.returns-clause-steps
returns-clause-steps g c meaning coded f k m same = steps-coded f meaning coded same k m

pub returns-clause-valid : goal.returns-clause-valid
returns-clause-valid g c meaning coded f count shapes code same valid = valid-coded f meaning coded same count shapes code valid
