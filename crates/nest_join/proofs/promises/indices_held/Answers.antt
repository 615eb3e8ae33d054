use Rattle.nest_join.proofs.HeldIndices.{index-held}
use Rattle.nest_join.proofs.promises.indices_held.Goals as goal

pub returns : goal.returns
returns g c meaning code is_quiet joined line printed w at all s loop block body ok start entry d r begun h finals some before k lt free is off =
    index-held meaning code is_quiet joined line printed w at all s loop block body ok start entry d r begun h finals some before k lt free is off
