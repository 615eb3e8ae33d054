use Rattle.std.proofs.Common.{◌≡◌, take}
use Rattle.part_steps.specs.Stores.{each_stored}
use Rattle.part_steps.proofs.stores.put_each.Given as goal

-- those so far are stored
abbrev pub invariant-loop-store : goal.invariant-loop-store
invariant-loop-store l = l.pieces.items ≡ each_stored (take l.store-index l.stores) l.initial.pieces.items
