use Rattle.std.proofs.Common.{◌≡◌, drop}
use Rattle.std.specs.Prelude.{◌||◌}
use Rattle.distribution_rules.specs.DistributionRules.{have_small_sum}
use Rattle.distribution_rules.proofs.block_sizes.have_small_sum.Given as goal

abbrev pub invariant-loop-place : goal.invariant-loop-place
invariant-loop-place l = (l.small || have_small_sum (drop l.place l.formats) (drop l.place l.dims)) ≡ have_small_sum l.formats l.dims
