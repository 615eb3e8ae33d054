use Rattle.courses.proofs.Copies.{copies}
use Rattle.courses.proofs.promises.copy_places.Goals as goal

pub returns : goal.returns
returns c = copies
