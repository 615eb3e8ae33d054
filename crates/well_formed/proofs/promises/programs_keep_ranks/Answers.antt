use Rattle.well_formed.proofs.Programs.{ranked}
use Rattle.well_formed.proofs.promises.programs_keep_ranks.Goals as goal

pub returns : goal.returns
returns c = λ p rules. ranked p (c.all_are_known.ensures p) rules
