use Rattle.std.proofs.Common.{◌≡◌, ◌+◌, ◌-◌, ◌&&◌, ℕ, Bool, true, false, sym, ◌∙◌, ap, arith}
use Rattle.std.proofs.lemmas.List.{get_or-replicate, length-replicate}
use Rattle.round_color.specs.Coloring.{is_free}
use Rattle.round_color.specs.Table.{seen, sided}
use Rattle.round_color.proofs.FirstPassing.{first_passing-skip, first_passing-here, first_passing-end}
use Rattle.round_color.proofs.free_colors.free_at.Goals as goal

pub loop-color-preserved : goal.loop-color-preserved
loop-color-preserved c =
    let P : ℕ → Bool = is_free c.args.nodes (sided c.args.at_target (seen c.args.nodes c.args.table.now)) c.args.node in
    c.loop-color.invariant ∙ first_passing-skip P c.loop-color.color (c.args.limit - (c.loop-color.color + 1)) (c.args.limit - c.loop-color.color) (omega arith)
    (sym c.is_free_at.ensures ∙ c.if-is_free_at.false)

pub returns-then-is_free_at : goal.returns-then-is_free_at
returns-then-is_free_at c =
    let P : ℕ → Bool = is_free c.args.nodes (sided c.args.at_target (seen c.args.nodes c.args.table.now)) c.args.node in
    sym (c.loop-color.invariant ∙ first_passing-here P c.loop-color.color (c.args.limit - (c.loop-color.color + 1)) (c.args.limit - c.loop-color.color) (omega arith)
    (sym c.is_free_at.ensures ∙ c.if-is_free_at.true))

pub returns : goal.returns
returns c =
    let P : ℕ → Bool = is_free c.args.nodes (sided c.args.at_target (seen c.args.nodes c.args.table.now)) c.args.node in
    let at : c.loop-color.color ≡ c.args.limit = omega arith in
    sym (c.loop-color.invariant ∙ first_passing-end P c.loop-color.color (c.args.limit - c.loop-color.color) (omega arith) ∙ at)

pub is_free_at-requires-clause-listed : goal.is_free_at-requires-clause-listed
is_free_at-requires-clause-listed c = λ below.
    let color = c.loop-color.color in
    let size = length-replicate 64 true in
    c.leave_free.ensures color
    ∙ ap (λ b. b && is_free c.args.nodes (sided c.args.at_target (seen c.args.nodes c.args.table.now)) c.args.node color) (get_or-replicate 64 color true false (omega arith))
