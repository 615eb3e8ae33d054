use Rattle.std.proofs.Common.{◌≡◌, ◌++◌, drop, map}
use Rattle.syntax_tree.specs.Expression.{expression}
use Rattle.distribution_rules.specs.Setting.{value_in}
use Rattle.distribution_rules.proofs.distributions.size_values.Given as goal

-- the values so far, and those of the rest after them, are all
abbrev pub invariant-loop-size : goal.invariant-loop-size
invariant-loop-size l = l.values.items ++ map (value_in l.setting) (map expression (drop l.size-index l.sizes)) ≡ map (value_in l.setting) (map expression l.sizes)
