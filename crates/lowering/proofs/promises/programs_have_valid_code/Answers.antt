use Rattle.lowering.proofs.ValidPrograms.{program-valid}
use Rattle.lowering.proofs.promises.programs_have_valid_code.Goals as goal

pub returns : goal.returns
returns c = program-valid
