use Rattle.std.proofs.Common.{◌≡◌, ◌≤◌, drop}
use Rattle.distribution_rules.specs.Distributed.{all_or_none, map_dim}
use Rattle.distribution_rules.specs.DistributedSteps.{and_entries, entry_list}
use Rattle.distribution_rules.specs.DistributionRules.{distributed_from}
use Rattle.distribution_rules.proofs.object_mapping.entries.Given as goal

abbrev pub invariant-loop-place : goal.invariant-loop-place
invariant-loop-place l =
    (and_entries (entry_list l.entries) (all_or_none map_dim (distributed_from l.place l.grid_dim (drop l.place l.formats) (drop l.place l.dims) (drop l.grid_dim l.extents)))
    ≡ all_or_none map_dim (distributed_from 0 0 l.formats l.dims l.extents))
    × (l.grid_dim ≤ l.place)
