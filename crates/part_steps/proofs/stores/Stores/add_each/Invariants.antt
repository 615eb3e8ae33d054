use Rattle.std.proofs.Common.{◌≡◌, take}
use Rattle.storage.specs.Storage.{Storage}
use Rattle.part_steps.specs.Stores.{stored}
use Rattle.part_steps.specs.Strips.{written}
use Rattle.part_steps.proofs.stores.Stores.add_each.Given as goal

-- those so far are written
abbrev pub invariant-loop-index : goal.invariant-loop-index
invariant-loop-index l = (pieces : Storage) → stored l.self pieces ≡ written l.owners.layouts l.id l.line 0 (take l.index l.values) (stored l.initial.self pieces)
