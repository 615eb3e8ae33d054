use Rattle.visited_tuples.proofs.Reading.{owns-named}
use Rattle.visited_tuples.proofs.promises.owned_by_places.Goals as goal

pub returns : goal.returns
returns c = owns-named
