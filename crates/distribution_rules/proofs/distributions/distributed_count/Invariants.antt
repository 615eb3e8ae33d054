use Rattle.std.proofs.Common.{◌≡◌, ◌+◌, ◌≤◌, drop, map}
use Rattle.syntax_tree.specs.Directive.{format_of}
use Rattle.distribution_rules.specs.DistributionRules.{distributed_count}
use Rattle.distribution_rules.proofs.distributions.distributed_count.Given as goal

-- those so far and those of the rest are all
abbrev pub invariant-loop-format : goal.invariant-loop-format
invariant-loop-format l =
    (l.count + distributed_count (map format_of (drop l.format-index l.formats)) ≡ distributed_count (map format_of l.formats)) × (l.count ≤ l.format-index)
