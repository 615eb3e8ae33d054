use Rattle.nest_join.proofs.NestsEnd.{nests-end}
use Rattle.nest_join.proofs.promises.nests_end.Goals as goal

pub returns : goal.returns
returns g c meaning code is_quiet joined line printed w at all s loop block body ok start entry d h = nests-end meaning code is_quiet joined line printed w at all s loop block body ok start entry d h
