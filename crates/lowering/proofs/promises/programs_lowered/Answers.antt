use Rattle.lowering.proofs.Programs.{program-ends}
use Rattle.lowering.proofs.promises.programs_lowered.Goals as goal

pub returns : goal.returns
returns c = λ n room table moves body s layouts is tabled roomy laid ok forms ranked fit fits. program-ends table n room moves body s is tabled roomy fit fits layouts laid ok forms ranked
