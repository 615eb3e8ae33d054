use Rattle.std.proofs.Common.{◌≡◌, ◌+◌, ◌++◌, ◌∷◌, [], sym, ◌∙◌, arith}
use Rattle.std.proofs.lemmas.List.FromFn.{map-range_with_len_more}
use Rattle.owned_places.specs.Candidates.{candidate}
use Rattle.owned_places.proofs.passing.places_of.Goals as goal

pub loop-n-preserved : goal.loop-n-preserved
loop-n-preserved c =
    let n = c.loop-n.n in
    let at : 0 + n ≡ n = omega arith in
    c.in_ok-push.ensures.items ∙ (λ i. c.loop-n.invariant i ++ c.place.ensures i ∷ []) ∙ sym (map-range_with_len_more (candidate c.args.candidates.now) 0 n n at)
