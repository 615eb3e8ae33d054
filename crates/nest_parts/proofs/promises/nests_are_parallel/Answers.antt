use Rattle.nest_parts.proofs.Parallel.{is_parallel}
use Rattle.nest_parts.proofs.promises.nests_are_parallel.Goals as goal

pub returns : goal.returns
returns c kinds all s nest loop block body start row h are passed room = is_parallel kinds all s nest loop block body h are passed start row room
