use Rattle.std.proofs.Common.{ℕ, sym, ◌∙◌, ap, arith, map, ◌++◌, ◌∷◌, []}
use Rattle.std.proofs.lemmas.List.FromFn.{map-range_with_len_more}
use Rattle.std.specs.List.{range_with_len}
use Rattle.mappings.specs.LocalOrder.{local_elements}
use Rattle.local_address.specs.Spans.{span_of}
use Rattle.local_address.proofs.spans.owned_spans.Goals as goal

pub loop-node-preserved : goal.loop-node-preserved
loop-node-preserved c =
    let owned = λ (node : ℕ). span_of (local_elements c.args.map.now c.args.shape.now node) in
    c.in_ok-push.ensures.items ∙ ap (λ spans. spans ++ c.in_ok-node_span.field-0 ∷ []) c.loop-node.invariant
    ∙ ap (λ span. map owned (range_with_len 0 c.loop-node.node) ++ span ∷ []) c.in_ok-node_span.ensures
    ∙ sym (map-range_with_len_more owned 0 c.loop-node.node c.loop-node.node (omega arith))
