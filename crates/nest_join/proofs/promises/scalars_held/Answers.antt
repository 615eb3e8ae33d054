use Rattle.nest_join.proofs.Held.{scalar-held}
use Rattle.nest_join.proofs.promises.scalars_held.Goals as goal

pub returns : goal.returns
returns g c meaning code is_quiet joined line printed w at all s loop block body ok start entry d r h holds finals k lt free no_index =
    scalar-held meaning code is_quiet joined line printed w at all s loop block body ok start entry d r h holds finals k lt free no_index
