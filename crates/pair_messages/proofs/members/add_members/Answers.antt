use Rattle.std.proofs.Common.{◌≡◌, ℕ, ◌+◌, ◌*◌, ◌++◌, ◌∷◌, [], map, sym, ◌∙◌, ap, arith}
use Rattle.std.proofs.lemmas.List.{append_assoc, map-append}
use Rattle.std.specs.List.{range_with_len}
use Rattle.hpf_base.proofs.Ranges.{range_with_len-add}
use Rattle.pair_messages.proofs.members.add_members.Goals as goal

pub loop-n-preserved : goal.loop-n-preserved
loop-n-preserved c =
    let n = c.loop-n.n in
    let at : 0 + n ≡ n = omega arith in
    let old = c.args.places.now.items in
    let place : ℕ → ℕ = λ k. c.args.class.now.first + c.args.class.now.stride * k in
    c.in_ok-push.ensures.items ∙ ap (λ xs. xs ++ place n ∷ []) c.loop-n.invariant
    ∙ append_assoc old (map place (range_with_len 0 n)) (place n ∷ [])
    ∙ ap (λ xs. old ++ xs) (ap (λ k. map place (range_with_len 0 n) ++ place k ∷ []) (sym at) ∙ sym (map-append place (range_with_len 0 n) (range_with_len (0 + n) 1))
    ∙ ap (map place) (sym (range_with_len-add 0 n 1)))
