use Rattle.std.proofs.Common.{◌≡◌, ◌++◌, drop}
use Rattle.distribution_rules.proofs.object_mapping.grid_of.Given as goal

abbrev pub invariant-loop-extent : goal.invariant-loop-extent
invariant-loop-extent l = l.narrow.items ++ drop l.extent-index l.extents ≡ l.extents
