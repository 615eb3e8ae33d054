use Rattle.std.proofs.Common.{map}
use Rattle.std.specs.List.{flat_map}
use Rattle.syntax_tree.specs.Directive.{bound}
use Rattle.declarations.specs.Declaring.{constant_reason}
use Rattle.expression_rules.specs.Inner.{bound_expressions}
use Rattle.declarations.proofs.ConstantLists.{constant_append}
use Rattle.declarations.proofs.LeastReasons.{lesser_next}
use Rattle.declarations.proofs.constant_reasons.bounds_reason.Goals as goal

pub loop-dimension-preserved : goal.loop-dimension-preserved
loop-dimension-preserved c =
    let t = c.args.scope.now in
    lesser_next (λ bs. constant_reason t (flat_map bound_expressions (map bound bs))) (λ b. constant_reason t (bound_expressions (bound b)))
    (λ b bs. constant_append t (bound_expressions (bound b)) (flat_map bound_expressions (map bound bs)))
    c.args.bounds.now c.loop-dimension.dimension-index c.dimension-item.result c.loop-dimension.least c.in_ok-found.found c.lesser-least.result
    c.loop-dimension-test.true c.dimension-item.is c.in_ok-found.ensures c.lesser-least.ensures c.loop-dimension.invariant
