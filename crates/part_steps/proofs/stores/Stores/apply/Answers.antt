use Rattle.std.proofs.Common.{◌∙◌, ap}
use Rattle.part_steps.specs.Stores.{put}
use Rattle.part_steps.proofs.StoreLaws.{stored-next}
use Rattle.part_steps.proofs.stores.Stores.apply.Goals as goal

pub loop-store-preserved : goal.loop-store-preserved
loop-store-preserved c =
    stored-next c.args.self.now.list.items c.deref-store-items.result.now c.loop-store.store-index c.store-item.result c.args.pieces.now.items c.loop-store.pieces.items c.put.new.pieces.items
    c.deref-store-items.ensures.value c.loop-store-test.true c.loop-store.invariant (c.put.ensures ∙ ap (λ s. put s c.loop-store.pieces.items) c.store-item.is)
