use Rattle.lowering.proofs.Outcomes.{outcome-is}
use Rattle.lowering.proofs.promises.outcomes_lowered.Goals as goal

pub returns : goal.returns
returns c = outcome-is
