use Rattle.anchor_positions.proofs.Positions.{form-by-positions, value-by-positions}
use Rattle.anchor_positions.proofs.promises.subscripts_by_positions.Goals as goal

pub returns-clause-forms : goal.returns-clause-forms
returns-clause-forms c = form-by-positions

pub returns-clause-values : goal.returns-clause-values
returns-clause-values c = value-by-positions
