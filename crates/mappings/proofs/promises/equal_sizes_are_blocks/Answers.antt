use Rattle.mappings.proofs.Lines.{same-blocks}
use Rattle.mappings.proofs.promises.equal_sizes_are_blocks.Goals as goal

pub returns : goal.returns
returns c = same-blocks
