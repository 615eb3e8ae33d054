use Rattle.std.proofs.Common.{◌≡◌, drop}
use Rattle.std.specs.List.{flat_map}
use Rattle.declarations.specs.Declaring.{least_reason, lesser}
use Rattle.syntax_tree.specs.Directive.{alignment}
use Rattle.alignment_rules.specs.AlignmentRules.{alignee_reasons}
use Rattle.directive_check.proofs.declared_rules.listed_alignees_reason.Given as goal

abbrev pub invariant-loop-name : goal.invariant-loop-name
invariant-loop-name l =
    lesser l.least (least_reason (flat_map (alignee_reasons l.setting (alignment l.spec)) (drop l.name-index l.names)))
    ≡ least_reason (flat_map (alignee_reasons l.setting (alignment l.spec)) l.names)
