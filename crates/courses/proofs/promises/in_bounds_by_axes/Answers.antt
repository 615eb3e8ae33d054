use Rattle.courses.proofs.Owners.{bounded}
use Rattle.courses.proofs.promises.in_bounds_by_axes.Goals as goal

pub returns : goal.returns
returns c = bounded
