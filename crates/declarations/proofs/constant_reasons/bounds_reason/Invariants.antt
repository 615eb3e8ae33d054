use Rattle.std.proofs.Common.{◌≡◌, drop, map}
use Rattle.std.specs.List.{flat_map}
use Rattle.syntax_tree.specs.Directive.{bound}
use Rattle.declarations.specs.Declaring.{constant_reason, lesser}
use Rattle.expression_rules.specs.Inner.{bound_expressions}
use Rattle.declarations.proofs.constant_reasons.bounds_reason.Given as goal

abbrev pub invariant-loop-dimension : goal.invariant-loop-dimension
invariant-loop-dimension l =
    lesser l.least (constant_reason l.scope (flat_map bound_expressions (map bound (drop l.dimension-index l.bounds))))
    ≡ constant_reason l.scope (flat_map bound_expressions (map bound l.bounds))
