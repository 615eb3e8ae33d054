use Rattle.std.proofs.Common.{◌≡◌, ◌*◌, ◌^◌, ◌≤◌, drop}
use Rattle.std.specs.Prelude.{option_map, sum}
use Rattle.distribution_rules.specs.DistributedSteps.{and_taken}
use Rattle.distribution_rules.specs.DistributionRules.{known_sizes}
use Rattle.distribution_rules.proofs.block_sizes.known_sum.Given as goal

-- those of the sizes so far, and those of the rest, are all
abbrev pub invariant-loop-size : goal.invariant-loop-size
invariant-loop-size l =
    (and_taken l.total (known_sizes (drop l.size-index l.sizes)) ≡ option_map sum (known_sizes l.sizes)) × (l.total ≤ l.size-index * 2 ^ 63)
