use Rattle.courses.proofs.Axes.{names-along}
use Rattle.courses.proofs.promises.names_along_axes.Goals as goal

pub returns : goal.returns
returns c = names-along
