use Rattle.std.proofs.Common.{◌≡◌, drop, map}
use Rattle.std.specs.Prelude.{◌||◌}
use Rattle.expression_rules.specs.Symbols.{Name, is_among}
use Rattle.directive_check.specs.MappedSteps.{dynamic}
use Rattle.directive_check.proofs.dynamic_names.distinct_names.Given as goal

abbrev pub invariant-loop-one : goal.invariant-loop-one
invariant-loop-one l =
    (x : Name) → (is_among x l.distinct.items || is_among x (map (λ d. d.name) (dynamic (drop l.one-index l.names)))) ≡ is_among x (map (λ d. d.name) (dynamic l.names))
