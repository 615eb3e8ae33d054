use Rattle.well_formed.proofs.Programs.{valid}
use Rattle.well_formed.proofs.promises.accepted_code_is_valid.Goals as goal

pub returns : goal.returns
returns c = valid
