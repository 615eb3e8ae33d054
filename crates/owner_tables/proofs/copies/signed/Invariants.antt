use Rattle.std.proofs.Common.{◌≡◌, map, pos, take}
use Rattle.owner_tables.proofs.copies.signed.Given as goal

abbrev pub invariant-loop-extent : goal.invariant-loop-extent
invariant-loop-extent l = l.signed.items ≡ map pos (take l.extent-index l.extents)
