use Rattle.std.specs.List.{flat_map}
use Rattle.declarations.specs.Declaring.{least_reason}
use Rattle.declarations.proofs.LeastReasons.{least_reason_append, lesser_next}
use Rattle.alignment_rules.specs.AlignmentRules.{pair_reasons}
use Rattle.alignment_rules.proofs.alignees.pairs_reason.Goals as goal

pub loop-pair-preserved : goal.loop-pair-preserved
loop-pair-preserved c =
    let reasons = pair_reasons c.args.dims.now in
    lesser_next (λ ps. least_reason (flat_map reasons ps)) (λ p. least_reason (reasons p)) (λ p ps. least_reason_append (reasons p) (flat_map reasons ps))
    c.args.pairs.now c.loop-pair.pair-index c.pair-item.result c.loop-pair.least c.pair_reason-found.result c.lesser-least.result
    c.loop-pair-test.true c.pair-item.is c.pair_reason-found.ensures c.lesser-least.ensures c.loop-pair.invariant
