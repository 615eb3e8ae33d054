use Rattle.std.proofs.Common.{◌≡◌, ◌+◌, ◌-◌, ◌==◌, ℕ, Bool, map, sym, ◌∙◌, ap, arith}
use Rattle.round_color.specs.Coloring.{load, degree}
use Rattle.round_color.specs.Table.{ends}
use Rattle.round_color.proofs.FirstPassing.{first_passing-skip, first_passing-here, first_passing-end}
use Rattle.round_color.proofs.loads.busiest_node.Goals as goal

pub loop-node-preserved : goal.loop-node-preserved
loop-node-preserved c =
    let es = map ends c.args.edges.now in
    let P : ℕ → Bool = λ node. load es node == degree c.args.nodes es in
    c.loop-node.invariant
    ∙ first_passing-skip P c.loop-node.node (c.args.nodes - (c.loop-node.node + 1)) (c.args.nodes - c.loop-node.node) (omega arith)
    (sym (c.has_load.ensures ∙ ap (λ d. load es c.loop-node.node == d) c.degree-greatest.ensures) ∙ c.if-has_load.false)

pub returns-then-has_load : goal.returns-then-has_load
returns-then-has_load c =
    let es = map ends c.args.edges.now in
    let P : ℕ → Bool = λ node. load es node == degree c.args.nodes es in
    sym (c.loop-node.invariant
    ∙ first_passing-here P c.loop-node.node (c.args.nodes - (c.loop-node.node + 1)) (c.args.nodes - c.loop-node.node) (omega arith)
    (sym (c.has_load.ensures ∙ ap (λ d. load es c.loop-node.node == d) c.degree-greatest.ensures) ∙ c.if-has_load.true))

pub returns : goal.returns
returns c =
    let es = map ends c.args.edges.now in
    let P : ℕ → Bool = λ node. load es node == degree c.args.nodes es in
    let at : c.loop-node.node ≡ c.args.nodes = omega arith in
    sym (c.loop-node.invariant ∙ first_passing-end P c.loop-node.node (c.args.nodes - c.loop-node.node) (omega arith) ∙ at)
