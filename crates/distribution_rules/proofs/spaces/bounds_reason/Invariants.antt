use Rattle.std.proofs.Common.{◌≡◌, drop, map}
use Rattle.std.specs.List.{flat_map}
use Rattle.syntax_tree.specs.Directive.{bound}
use Rattle.declarations.specs.Declaring.{least_reason, lesser}
use Rattle.distribution_rules.specs.SpaceRules.{bound_reasons}
use Rattle.distribution_rules.proofs.spaces.bounds_reason.Given as goal

abbrev pub invariant-loop-dimension : goal.invariant-loop-dimension
invariant-loop-dimension l =
    lesser l.least (least_reason (flat_map (bound_reasons l.grid l.table) (map bound (drop l.dimension-index l.bounds))))
    ≡ least_reason (flat_map (bound_reasons l.grid l.table) (map bound l.bounds))
