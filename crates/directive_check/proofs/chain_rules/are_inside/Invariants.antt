use Rattle.std.proofs.Common.{◌≡◌, drop}
use Rattle.std.specs.Prelude.{◌&&◌}
use Rattle.directive_check.specs.WideAlignments.{are_wide_inside}
use Rattle.directive_check.proofs.chain_rules.are_inside.Given as goal

abbrev pub invariant-loop-place : goal.invariant-loop-place
invariant-loop-place l = (l.all && are_wide_inside l.dims (drop l.place l.entries) (drop l.place l.bounds)) ≡ are_wide_inside l.dims l.entries l.bounds
