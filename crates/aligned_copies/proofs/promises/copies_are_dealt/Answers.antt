use Rattle.aligned_copies.proofs.Beside.{are-dealt}
use Rattle.aligned_copies.proofs.promises.copies_are_dealt.Goals as goal

pub returns : goal.returns
returns c nodes layouts anchor ns some owned = are-dealt nodes layouts anchor ns some owned
