use Rattle.std.proofs.Common.{◌≡◌, ◌≤◌, drop}
use Rattle.std.specs.Prelude.{◌||◌}
use Rattle.std.specs.List.{list_any}
use Rattle.distribution_rules.specs.DistributionRules.{distributed_from, is_unfit}
use Rattle.distribution_rules.proofs.blocks.is_any_unfit.Given as goal

abbrev pub invariant-loop-place : goal.invariant-loop-place
invariant-loop-place l =
    ((l.unfit || list_any is_unfit (distributed_from l.place l.grid_dim (drop l.place l.formats) (drop l.place l.dims) (drop l.grid_dim l.extents)))
    ≡ list_any is_unfit (distributed_from 0 0 l.formats l.dims l.extents))
    × (l.grid_dim ≤ l.place)
