use Rattle.part_steps.proofs.StoreLaws.{each-next}
use Rattle.part_steps.proofs.stores.put_each.Goals as goal

pub loop-store-preserved : goal.loop-store-preserved
loop-store-preserved c =
    each-next c.args.stores.now c.loop-store.store-index _ c.args.pieces.now.items c.loop-store.pieces.items c.put_one.new.pieces.items c.loop-store-test.true c.loop-store.invariant c.put_one.ensures
