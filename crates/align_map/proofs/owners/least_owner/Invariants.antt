use Rattle.std.proofs.Common.{◌≡◌, ℕ, ◌<◌, false}
use Rattle.mappings.specs.Alignment.{owns}
use Rattle.align_map.proofs.owners.least_owner.Given as goal

abbrev pub invariant-loop-node : goal.invariant-loop-node
invariant-loop-node l = (k : ℕ) → k < l.node → owns l.map l.index k ≡ false
