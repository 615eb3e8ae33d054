use Rattle.std.proofs.Common.{◌≡◌, take}
use Rattle.tuple_values.proofs.references.small_extents.Given as goal

-- the extents so far
abbrev pub invariant-loop-extent : goal.invariant-loop-extent
invariant-loop-extent l = l.ns.items ≡ take l.extent-index l.extents
