use Rattle.std.proofs.Common.{◌≡◌, ◌+◌, ◌++◌, [], ◌∷◌, ◌∙◌, sym, ap, arith}
use Rattle.std.specs.List.{range_with_len}
use Rattle.hpf_base.proofs.Ranges.{range_with_len-add}
use Rattle.part_visits.proofs.lists.places_below.Goals as goal

pub loop-place-preserved : goal.loop-place-preserved
loop-place-preserved c =
    let n = c.loop-place.place in
    let at : n ≡ 0 + n = omega arith in
    c.in_ok-push.ensures.items ∙ ap (λ xs. xs ++ n ∷ []) c.loop-place.invariant ∙ ap (λ k. range_with_len 0 n ++ k ∷ []) at ∙ sym (range_with_len-add 0 n 1)
