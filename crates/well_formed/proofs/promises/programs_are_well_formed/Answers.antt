use Rattle.well_formed.proofs.Programs.{well_formed}
use Rattle.well_formed.proofs.promises.programs_are_well_formed.Goals as goal

pub returns : goal.returns
returns c = well_formed
