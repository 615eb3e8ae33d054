use Rattle.std.proofs.Common.{◌≡◌, ◌++◌, drop, map}
use Rattle.syntax_tree.specs.Directive.{format_of}
use Rattle.distribution_rules.specs.DistributionRules.{format_value}
use Rattle.distribution_rules.proofs.distributions.format_values.Given as goal

-- the formats so far, and the rest after them, are all
abbrev pub invariant-loop-format : goal.invariant-loop-format
invariant-loop-format l =
    l.values.items ++ map (format_value l.setting) (map format_of (drop l.format-index l.formats)) ≡ map (format_value l.setting) (map format_of l.formats)
