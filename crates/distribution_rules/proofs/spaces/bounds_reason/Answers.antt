use Rattle.std.proofs.Common.{map}
use Rattle.std.specs.List.{flat_map}
use Rattle.syntax_tree.specs.Directive.{bound}
use Rattle.declarations.specs.Declaring.{least_reason}
use Rattle.distribution_rules.specs.SpaceRules.{bound_reasons}
use Rattle.declarations.proofs.LeastReasons.{least_reason_append, lesser_next}
use Rattle.distribution_rules.proofs.spaces.bounds_reason.Goals as goal

pub loop-dimension-preserved : goal.loop-dimension-preserved
loop-dimension-preserved c =
    let reasons = bound_reasons c.args.grid.now c.args.table.now in
    lesser_next (λ bs. least_reason (flat_map reasons (map bound bs))) (λ b. least_reason (reasons (bound b)))
    (λ b bs. least_reason_append (reasons (bound b)) (flat_map reasons (map bound bs)))
    c.args.bounds.now c.loop-dimension.dimension-index c.dimension-item.result c.loop-dimension.least c.in_ok-found.found c.lesser-least.result
    c.loop-dimension-test.true c.dimension-item.is c.in_ok-found.ensures c.lesser-least.ensures c.loop-dimension.invariant
