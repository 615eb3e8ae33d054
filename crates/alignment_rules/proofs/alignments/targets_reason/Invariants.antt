use Rattle.std.proofs.Common.{◌≡◌, drop, map}
use Rattle.std.specs.List.{flat_map}
use Rattle.syntax_tree.specs.Directive.{target_of}
use Rattle.declarations.specs.Declaring.{least_reason, lesser}
use Rattle.alignment_rules.specs.AlignmentRules.{target_reasons}
use Rattle.alignment_rules.proofs.alignments.targets_reason.Given as goal

abbrev pub invariant-loop-target : goal.invariant-loop-target
invariant-loop-target l =
    lesser l.least (least_reason (flat_map (target_reasons l.setting l.dummies) (map target_of (drop l.target-index l.targets))))
    ≡ least_reason (flat_map (target_reasons l.setting l.dummies) (map target_of l.targets))
