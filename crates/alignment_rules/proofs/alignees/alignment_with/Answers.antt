use Rattle.std.proofs.Common.{ap, ◌∙◌}
use Rattle.alignment_rules.specs.WideEntries.{joined, single}
use Rattle.alignment_rules.proofs.Joined.{joined_next}
use Rattle.alignment_rules.proofs.alignees.alignment_with.Goals as goal

pub loop-pair-preserved : goal.loop-pair-preserved
loop-pair-preserved c =
    joined_next c.args.pairs.now c.loop-pair.pair-index c.pair-item.result c.loop-pair.found c.in_ok-found.found _ c.loop-pair-test.true c.pair-item.is
    (c.in_ok-found.ensures ∙ ap (λ e. joined c.loop-pair.found (single e)) c.entry_of.ensures.value) c.loop-pair.invariant
