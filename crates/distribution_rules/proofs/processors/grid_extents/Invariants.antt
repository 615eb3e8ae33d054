use Rattle.std.proofs.Common.{◌≡◌, ◌++◌, drop}
use Rattle.distribution_rules.proofs.processors.grid_extents.Given as goal

abbrev pub invariant-loop-place : goal.invariant-loop-place
invariant-loop-place l = l.extents ++ drop l.place l.grid ≡ l.grid
