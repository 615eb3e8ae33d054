use Rattle.std.proofs.Common.{◌≡◌, ◌<◌, ◌++◌, ℕ, sym, ◌∙◌, ap, arith, append_assoc, get_or, length}
use Rattle.std.proofs.lemmas.List.FromFn.{get_or-map-range_with_len, length-map-range_with_len}
use Rattle.hpf_base.specs.ElementOrder.{product}
use Rattle.mappings.specs.LocalOrder.{local_elements}
use Rattle.local_address.specs.Spans.{span_of}
use Rattle.run_report.specs.MapText.{array_lines, node_line}
use Rattle.run_report.proofs.Lines.{lines_more}
use Rattle.run_report.proofs.node_lines.add_array.Goals as goal

pub index-requires : goal.index-requires
index-requires c =
    let array = c.args.array.now in
    let many : length c.in_ok-spans.spans.items ≡ product array.start.grid =
    ap length c.in_ok-spans.ensures
    ∙ length-map-range_with_len (λ node. span_of (local_elements array.start array.shape node)) 0 (product array.start.grid) in
    omega (arith, many, c.requires.start.onto, c.loop-node-test.true)

pub loop-node-preserved : goal.loop-node-preserved
loop-node-preserved c =
    let array = c.args.array.now in
    let n = c.loop-node.node in
    let span = λ (node : ℕ). span_of (local_elements array.start array.shape node) in
    let line = λ (node : ℕ). node_line array.name node (span node) in
    let within : n < product array.start.grid = omega (arith, c.requires.start.onto, c.loop-node-test.true) in
    let read : c.index.result.now ≡ span n =
    c.index.ensures ∙ ap (λ spans. get_or spans n c.index.result.now) c.in_ok-spans.ensures
    ∙ get_or-map-range_with_len span 0 (product array.start.grid) n n c.index.result.now within (omega arith) in
    c.in_ok-add_line.ensures ∙ ap (λ s. c.loop-node.text.items ++ node_line array.name n s) read ∙ ap (λ text. text ++ line n) c.loop-node.invariant
    ∙ append_assoc c.args.text.now.items (array_lines n array) (line n) ∙ ap (λ lines. c.args.text.now.items ++ lines) (sym (lines_more line n))
