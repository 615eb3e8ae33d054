use Rattle.std.proofs.Common.{sym}
use Rattle.pair_messages.proofs.TuplePlaces.{no-axis}
use Rattle.pair_messages.proofs.elements.place_on.Goals as goal

pub returns-then-axis-extents : goal.returns-then-axis-extents
returns-then-axis-extents c = sym (no-axis c.args.extents.now c.args.tuple c.args.axis c.if-axis-extents.true)
