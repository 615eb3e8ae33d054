use Rattle.nest_clash.proofs.Visiting.{visited}
use Rattle.nest_clash.proofs.promises.least_pairs.Goals as goal

pub returns : goal.returns
returns c acts n = visited acts n
