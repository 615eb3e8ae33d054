use Rattle.aligned_copies.proofs.Beside.{lie-beside}
use Rattle.aligned_copies.proofs.promises.copies_lie_beside.Goals as goal

pub returns : goal.returns
returns c layout ns xs at good below = lie-beside layout ns xs at good below
