use Rattle.std.proofs.Common.{map}
use Rattle.std.specs.List.{flat_map}
use Rattle.syntax_tree.specs.Directive.{target_of}
use Rattle.declarations.specs.Declaring.{least_reason}
use Rattle.declarations.proofs.LeastReasons.{least_reason_append, lesser_next}
use Rattle.alignment_rules.specs.AlignmentRules.{target_reasons}
use Rattle.alignment_rules.proofs.alignments.targets_reason.Goals as goal

pub loop-target-preserved : goal.loop-target-preserved
loop-target-preserved c =
    let reasons = target_reasons c.args.setting.now c.args.dummies.now in
    lesser_next (λ ts. least_reason (flat_map reasons (map target_of ts))) (λ t. least_reason (reasons (target_of t)))
    (λ t ts. least_reason_append (reasons (target_of t)) (flat_map reasons (map target_of ts)))
    c.args.targets.now c.loop-target.target-index c.target-item.result c.loop-target.least c.in_ok-found.found c.lesser-least.result
    c.loop-target-test.true c.target-item.is c.in_ok-found.ensures c.lesser-least.ensures c.loop-target.invariant
