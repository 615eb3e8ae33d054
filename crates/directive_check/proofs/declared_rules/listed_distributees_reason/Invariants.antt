use Rattle.std.proofs.Common.{◌≡◌, drop}
use Rattle.std.specs.List.{flat_map}
use Rattle.declarations.specs.Declaring.{least_reason, lesser}
use Rattle.distribution_rules.specs.DistributionRules.{distributee_reasons}
use Rattle.distribution_rules.specs.Setting.{object}
use Rattle.directive_check.proofs.declared_rules.listed_distributees_reason.Given as goal

abbrev pub invariant-loop-name : goal.invariant-loop-name
invariant-loop-name l =
    lesser l.least (least_reason (flat_map (λ x. distributee_reasons l.values (object l.setting x)) (drop l.name-index l.names)))
    ≡ least_reason (flat_map (λ x. distributee_reasons l.values (object l.setting x)) l.names)
