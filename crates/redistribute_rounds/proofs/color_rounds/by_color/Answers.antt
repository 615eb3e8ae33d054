use Rattle.std.proofs.Common.{◌≡◌, ◌+◌, ◌++◌, [], ◌∷◌, map, ◌∙◌, sym, ap, arith}
use Rattle.std.proofs.lemmas.List.{map-append}
use Rattle.std.proofs.lemmas.List.FromFn.{map-range_with_len_more}
use Rattle.machine_steps.specs.Rounds.{color_round}
use Rattle.redistribute_rounds.proofs.color_rounds.by_color.Goals as goal

pub loop-number-preserved : goal.loop-number-preserved
loop-number-preserved c =
    let round = color_round c.args.nodes c.args.pairs.now in
    let number = c.loop-number.number in
    let here : 0 + number ≡ number = omega arith in
    ap (map (λ v. v.items)) c.in_ok-push.ensures.items
    ∙ map-append (λ v. v.items) c.loop-number.list.items (c.in_ok-of_color.field-0 ∷ [])
    ∙ (λ i. c.loop-number.invariant i ++ (c.in_ok-of_color.ensures i ∷ []))
    ∙ sym (map-range_with_len_more round 0 number number here)
