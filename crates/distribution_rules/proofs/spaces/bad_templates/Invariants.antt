use Rattle.std.proofs.Common.{◌≡◌, drop, map}
use Rattle.std.specs.List.{flat_map}
use Rattle.syntax_tree.specs.Directive.{arrangement}
use Rattle.declarations.specs.Declarations.{bounds_of}
use Rattle.declarations.specs.Declaring.{least_reason, lesser}
use Rattle.distribution_rules.specs.SpaceRules.{template_reasons}
use Rattle.distribution_rules.proofs.spaces.bad_templates.Given as goal

abbrev pub invariant-loop-entity : goal.invariant-loop-entity
invariant-loop-entity l =
    lesser l.least (least_reason (flat_map (λ e. template_reasons l.setting.grid l.setting.names (bounds_of e.bounds)) (map arrangement (drop l.entity-index l.entities))))
    ≡ least_reason (flat_map (λ e. template_reasons l.setting.grid l.setting.names (bounds_of e.bounds)) (map arrangement l.entities))
