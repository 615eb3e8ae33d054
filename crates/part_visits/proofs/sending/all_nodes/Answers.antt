use Rattle.std.proofs.Common.{◌≡◌, ◌+◌, ◌++◌, [], ◌∷◌, ◌∙◌, sym, ap, arith}
use Rattle.std.specs.List.{range_with_len}
use Rattle.hpf_base.proofs.Ranges.{range_with_len-add}
use Rattle.part_visits.proofs.sending.all_nodes.Goals as goal

pub loop-node-preserved : goal.loop-node-preserved
loop-node-preserved c =
    let n = c.loop-node.node in
    let at : n ≡ 0 + n = omega arith in
    c.in_ok-push.ensures.items ∙ ap (λ xs. xs ++ n ∷ []) c.loop-node.invariant ∙ ap (λ k. range_with_len 0 n ++ k ∷ []) at ∙ sym (range_with_len-add 0 n 1)
