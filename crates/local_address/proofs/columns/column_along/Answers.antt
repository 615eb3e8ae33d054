use Rattle.std.proofs.Common.{ℕ, sym, ◌∙◌, ap, arith, map, filter, of_z, to_z, ◌++◌, ◌∷◌, []}
use Rattle.std.proofs.lemmas.List.FromFn.{map-range_with_len_more}
use Rattle.std.specs.Int.{w64}
use Rattle.std.specs.List.{range_with_len}
use Rattle.local_address.specs.Runs.{along, run_of, subscripts}
use Rattle.local_address.proofs.SpanLaws.{column-run}
use Rattle.local_address.proofs.columns.column_along.Goals as goal

pub loop-node-preserved : goal.loop-node-preserved
loop-node-preserved c =
    let lower = to_z w64 (of_z w64 c.args.lower) in
    let owned = λ (node : ℕ). run_of (filter (along c.args.map.now node c.args.dim) (subscripts lower c.args.extent)) in
    let run = column-run c.args.map.now c.loop-node.node c.args.dim c.in_ok-axis.field-0 lower c.args.extent c.in_ok-by_coordinate.by_coordinate.items
    c.own_on-own.result c.index.result.now c.in_ok-axis.ensures c.in_ok-by_coordinate.ensures c.own_on-own.ensures.value c.own_on-own.ensures.below
    c.index.ensures in
    c.in_ok-push.ensures.items ∙ ap (λ runs. runs ++ c.index.result.now ∷ []) c.loop-node.invariant
    ∙ ap (λ r. map owned (range_with_len 0 c.loop-node.node) ++ r ∷ []) run
    ∙ sym (map-range_with_len_more owned 0 c.loop-node.node c.loop-node.node (omega arith))
