use Rattle.aligned_copies.proofs.Beside.{have-sizes}
use Rattle.aligned_copies.proofs.promises.copies_have_sizes.Goals as goal

pub returns : goal.returns
returns c nodes layouts anchor ns = have-sizes nodes layouts anchor ns
