use Rattle.courses.proofs.Intervals.{inside-between}
use Rattle.courses.proofs.promises.inside_between.Goals as goal

pub returns : goal.returns
returns c = inside-between
