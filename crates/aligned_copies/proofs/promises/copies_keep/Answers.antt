use Rattle.std.proofs.Common.{ap}
use Rattle.machine_steps.specs.CopyLayout.{copy_extents}
use Rattle.aligned_copies.specs.Beside.{lies_by}
use Rattle.aligned_copies.proofs.promises.copies_keep.Goals as goal

pub returns : goal.returns
returns c nodes one other anchor ns same = ap (lies_by nodes (copy_extents ns) anchor.subscripts) same
