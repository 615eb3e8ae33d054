use Rattle.visited_tuples.proofs.Taken.{computed}
use Rattle.visited_tuples.proofs.promises.own_tuples.Goals as goal

pub returns : goal.returns
returns c = computed
