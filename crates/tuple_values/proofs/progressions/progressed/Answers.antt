use Rattle.std.proofs.Common.{◌≡◌, ◌++◌, ◌∷◌, [], ap, ◌∙◌, w64, SFits, rules}
use Rattle.std.proofs.lemmas.Int.{to_z-of_z}
use Rattle.tuple_values.proofs.progressions.progressed.Goals as goal
use Rattle.tuple_values.proofs.AxisProgressions.{progressed-next}

pub loop-k-preserved : goal.loop-k-preserved
loop-k-preserved c =
    let fits : SFits w64 c.loop-k.next.value = search rules in
    progressed-next c.loop-k.values.items c.push.new.self.items c.loop-k.next.value c.sum-next.result.value c.args.step.now c.args.count c.loop-k._k _ c.loop-k-test.true
    (c.in_ok-push.ensures.items ∙ ap (λ v. c.loop-k.values.items ++ v ∷ []) (to_z-of_z w64 c.loop-k.next.value fits)) c.sum-next.ensures c.loop-k.invariant
