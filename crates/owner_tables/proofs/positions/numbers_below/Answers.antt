use Rattle.std.proofs.Common.{[], ◌∷◌, ◌≡◌, ◌+◌, ◌++◌, sym, ◌∙◌, ap, arith}
use Rattle.std.specs.List.{range_with_len}
use Rattle.hpf_base.proofs.Ranges.{range_with_len-add}
use Rattle.owner_tables.proofs.positions.numbers_below.Goals as goal

pub loop-number-preserved : goal.loop-number-preserved
loop-number-preserved c =
    let n = c.loop-number.number in
    let at : n ≡ 0 + n = omega arith in
    c.in_ok-push.ensures.items ∙ ap (λ l. l ++ n ∷ []) c.loop-number.invariant ∙ ap (λ k. range_with_len 0 n ++ k ∷ []) at ∙ sym (range_with_len-add 0 n 1)
