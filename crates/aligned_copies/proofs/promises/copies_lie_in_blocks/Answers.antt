use Rattle.aligned_copies.proofs.InBlocks.{blocks-in-a-row}
use Rattle.aligned_copies.proofs.promises.copies_lie_in_blocks.Goals as goal

pub returns : goal.returns
returns c nodes layouts n some = blocks-in-a-row nodes n some
