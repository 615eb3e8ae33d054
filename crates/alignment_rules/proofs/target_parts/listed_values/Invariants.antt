use Rattle.std.proofs.Common.{◌≡◌, ◌++◌, drop, map}
use Rattle.syntax_tree.specs.Directive.{target_of}
use Rattle.alignment_rules.specs.AlignmentValues.{values_from}
use Rattle.alignment_rules.proofs.target_parts.listed_values.Given as goal

abbrev pub invariant-loop-target : goal.invariant-loop-target
invariant-loop-target l =
    (l.place ≡ l.target-index)
    × (l.values.items ++ values_from l.setting l.dummies (drop l.target-index l.bounds) (map target_of (drop l.target-index l.targets))
    ≡ values_from l.setting l.dummies l.bounds (map target_of l.targets))
