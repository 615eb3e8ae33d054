use Rattle.well_formed.proofs.Programs.{lowered}
use Rattle.well_formed.proofs.promises.accepted_programs_lowered.Goals as goal

pub returns : goal.returns
returns c = λ p room moves table layouts is-table roomy laid rules bodies forms fit.
    lowered p room moves table layouts (c.programs_keep_ranks.ensures p rules) is-table roomy laid rules bodies forms fit
