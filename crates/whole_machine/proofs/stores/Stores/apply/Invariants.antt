use Rattle.std.proofs.Common.{◌≡◌, take}
use Rattle.whole_machine.specs.Stores.{stored_all}
use Rattle.whole_machine.proofs.stores.Stores.apply.Given as goal

abbrev pub invariant-loop-store : goal.invariant-loop-store
invariant-loop-store l = l.rows.items ≡ stored_all (take l.store-index l.self.list.items) l.initial.rows.items
