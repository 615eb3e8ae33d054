use Rattle.whole_machine.proofs.StoreLaws.{stored-next}
use Rattle.whole_machine.proofs.stores.Stores.apply.Goals as goal

pub loop-store-preserved : goal.loop-store-preserved
loop-store-preserved c =
    stored-next c.args.self.now.list.items c.deref-store-items.result.now c.loop-store.store-index _ c.args.rows.now.items c.loop-store.rows.items c.write.new.rows.items
    c.deref-store-items.ensures.value c.loop-store-test.true c.loop-store.invariant c.write.ensures
