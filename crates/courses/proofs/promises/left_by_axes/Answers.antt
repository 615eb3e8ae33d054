use Rattle.courses.proofs.Owners.{left}
use Rattle.courses.proofs.promises.left_by_axes.Goals as goal

pub returns : goal.returns
returns c = left
