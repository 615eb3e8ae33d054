use Rattle.std.proofs.Common.{sym}
use Rattle.aligned_copies.proofs.Beside.{counted}
use Rattle.aligned_copies.proofs.CopyLaws.{factors_some}
use Rattle.copy_anchors.proofs.good.good_subscripts.Goals as goal

pub inside_subscripts-requires-clause-some : goal.inside_subscripts-requires-clause-some
inside_subscripts-requires-clause-some c = factors_some c.args.extents.now (counted c.args.extents.now (sym c.if-is_empty.ensures)).1
