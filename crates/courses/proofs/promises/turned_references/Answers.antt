use Rattle.courses.proofs.TurnedNames.{all-spots, all-turned-along, elements}
use Rattle.courses.proofs.promises.turned_references.Goals as goal

pub returns-clause-elements : goal.returns-clause-elements
returns-clause-elements c = elements

pub returns-clause-spots : goal.returns-clause-spots
returns-clause-spots c = all-spots

pub returns-clause-axes : goal.returns-clause-axes
returns-clause-axes c = all-turned-along
