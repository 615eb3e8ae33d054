use Rattle.std.proofs.Common.{arith}
use Rattle.slot_values.proofs.CopyExtents.{extent-within}
use Rattle.slot_values.proofs.spaces.narrowed.Goals as goal

pub unreachable-requires : goal.unreachable-requires
unreachable-requires c =
    let within = extent-within c.args.ns.now c.requires c.loop-n.n-index 0 c.loop-n-test.true in omega (arith, within, c.if-n.true)
