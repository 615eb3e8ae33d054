use Rattle.std.proofs.Common.{◌≡◌, ◌++◌, drop, map}
use Rattle.syntax_tree.specs.Directive.{target_of}
use Rattle.alignment_rules.specs.AlignmentRules.{dummies_of_target}
use Rattle.alignment_rules.proofs.repetitions.has_overlap.Given as goal

abbrev pub invariant-loop-target : goal.invariant-loop-target
invariant-loop-target l =
    l.lists.items ++ map (dummies_of_target l.dummies) (map target_of (drop l.target-index l.targets))
    ≡ map (dummies_of_target l.dummies) (map target_of l.targets)
