use Rattle.courses.proofs.Owners.{least}
use Rattle.courses.proofs.promises.least_by_axes.Goals as goal

pub returns : goal.returns
returns c = least
