use Rattle.std.proofs.Common.{◌+◌, ◌++◌, [], ◌∷◌, append_assoc, drop, drop-cons, add-one, get_or, map, sym, ap, ◌∙◌}
use Rattle.node_code.specs.Texts.{instructions}
use Rattle.program_code.specs.NestCode.{indices_code}
use Rattle.node_codegen.specs.NestNames.{with_index}
use Rattle.node_codegen.proofs.nest_code.add_indices_code.Goals as goal

pub loop-k-preserved : goal.loop-k-preserved
loop-k-preserved c =
    let xs = c.args.indices.now in
    let n = c.loop-k.k-index in
    let line = c.args.line in
    let target = c.args.target in
    let before = instructions c.loop-k.code.items in
    let own = indices_code line c.loop-k.at target (with_index (get_or xs n 0) ∷ []) in
    let rest = indices_code line c.in_ok-at.at target (map with_index (drop (n + 1) xs)) in
    ap (λ l. l ++ rest) c.in_ok-add_index_code.ensures
    ∙ append_assoc before own rest
    ∙ ap (λ l. before ++ l)
    (sym (ap (λ l. indices_code line c.loop-k.at target (map with_index l)) (drop-cons xs n 0 c.loop-k-test.true)
    ∙ (λ i. own ++ indices_code line (sym c.in_ok-at.ensures i) target (map with_index (drop (sym (add-one n) i) xs)))))
    ∙ c.loop-k.invariant
