use Rattle.axis_walks.proofs.Tests.{passing-below}
use Rattle.axis_walks.proofs.promises.passing_below.Goals as goal

pub returns : goal.returns
returns c = passing-below
