use Rattle.std.proofs.Common.{◌≡◌, ◌+◌, ◌-◌, ℕ, sym, ◌∙◌, arith}
use Rattle.round_color.specs.Coloring.{is_color}
use Rattle.round_color.specs.Table.{seen, sided}
use Rattle.round_color.proofs.FirstPassing.{first_passing-skip, first_passing-here, first_passing-end}
use Rattle.round_color.proofs.table.mate.Goals as goal

pub loop-other-preserved : goal.loop-other-preserved
loop-other-preserved c =
    let P = λ (other : ℕ). is_color c.args.color (sided c.args.at_target (seen c.args.nodes c.args.table.now) c.args.node other) in
    c.loop-other.invariant ∙ first_passing-skip P c.loop-other.other (c.args.nodes - (c.loop-other.other + 1)) (c.args.nodes - c.loop-other.other) (omega arith)
    (sym c.has_color.ensures ∙ c.if-has_color.false)

pub returns-then-has_color : goal.returns-then-has_color
returns-then-has_color c =
    let P = λ (other : ℕ). is_color c.args.color (sided c.args.at_target (seen c.args.nodes c.args.table.now) c.args.node other) in
    sym (c.loop-other.invariant ∙ first_passing-here P c.loop-other.other (c.args.nodes - (c.loop-other.other + 1)) (c.args.nodes - c.loop-other.other) (omega arith)
    (sym c.has_color.ensures ∙ c.if-has_color.true))

pub returns : goal.returns
returns c =
    let P = λ (other : ℕ). is_color c.args.color (sided c.args.at_target (seen c.args.nodes c.args.table.now) c.args.node other) in
    let at : c.loop-other.other ≡ c.args.nodes = omega arith in
    sym (c.loop-other.invariant ∙ first_passing-end P c.loop-other.other (c.args.nodes - c.loop-other.other) (omega arith) ∙ at)
