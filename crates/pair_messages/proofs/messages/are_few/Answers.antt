use Rattle.std.proofs.Common.{◌≤◌, ◌^◌, All, arith, subst}
use Rattle.std.proofs.lemmas.List.{take_all}
use Rattle.std.proofs.lemmas.List.Elements.{All-more}
use Rattle.pair_messages.proofs.messages.are_few.Goals as goal

pub loop-extent-preserved : goal.loop-extent-preserved
loop-extent-preserved c =
    All-more (λ n. n ≤ 2 ^ 32) c.args.extents.now c.loop-extent.extent-index 0 c.loop-extent-test.true c.loop-extent.invariant (omega (arith, c.if-extent-gt4294967296.false))

pub returns : goal.returns
returns c t = subst (All (λ n. n ≤ 2 ^ 32)) (take_all c.loop-extent.extent-index c.args.extents.now c.loop-extent-test.false) c.loop-extent.invariant
