use Rattle.courses.proofs.Axes.{axes}
use Rattle.courses.proofs.References.{subs}
use Rattle.courses.proofs.promises.subs_courses.Goals as goal

pub returns-clause-values : goal.returns-clause-values
returns-clause-values c = subs

pub returns-clause-axes : goal.returns-clause-axes
returns-clause-axes c = axes
