use Rattle.std.proofs.Common.{◌≡◌, drop}
use Rattle.distribution_rules.specs.DistributedSteps.{and_sizes}
use Rattle.distribution_rules.specs.DistributionRules.{known_sizes}
use Rattle.distribution_rules.proofs.block_sizes.known_sizes.Given as goal

-- the sizes so far, and the rest after them, are all
abbrev pub invariant-loop-size : goal.invariant-loop-size
invariant-loop-size l = and_sizes l.known.items (known_sizes (drop l.size-index l.sizes)) ≡ known_sizes l.sizes
