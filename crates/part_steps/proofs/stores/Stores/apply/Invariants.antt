use Rattle.std.proofs.Common.{◌≡◌, take}
use Rattle.part_steps.specs.Stores.{stored_all}
use Rattle.part_steps.proofs.stores.Stores.apply.Given as goal

-- those so far are stored
abbrev pub invariant-loop-store : goal.invariant-loop-store
invariant-loop-store l = l.pieces.items ≡ stored_all (take l.store-index l.self.list.items) l.initial.pieces.items
