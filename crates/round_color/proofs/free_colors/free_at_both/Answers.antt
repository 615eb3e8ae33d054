use Rattle.std.proofs.Common.{◌≡◌, ◌+◌, ◌-◌, ◌&&◌, ℕ, Bool, true, false, sym, ◌∙◌, ap, arith}
use Rattle.std.proofs.lemmas.List.{get_or-replicate, length-replicate}
use Rattle.round_color.specs.Coloring.{is_free, turned}
use Rattle.round_color.specs.Table.{seen}
use Rattle.round_color.proofs.FirstPassing.{first_passing-skip, first_passing-here, first_passing-end}
use Rattle.round_color.proofs.free_colors.free_at_both.Goals as goal

pub loop-color-preserved : goal.loop-color-preserved
loop-color-preserved c =
    let s = seen c.args.nodes c.args.table.now in
    let P : ℕ → Bool = λ k. is_free c.args.nodes s c.args.source k && is_free c.args.nodes (turned s) c.args.target k in
    c.loop-color.invariant ∙ first_passing-skip P c.loop-color.color (c.args.limit - (c.loop-color.color + 1)) (c.args.limit - c.loop-color.color) (omega arith)
    (sym c.is_free_at_both.ensures ∙ c.if-is_free_at_both.false)

pub returns-then-is_free_at_both : goal.returns-then-is_free_at_both
returns-then-is_free_at_both c =
    let s = seen c.args.nodes c.args.table.now in
    let P : ℕ → Bool = λ k. is_free c.args.nodes s c.args.source k && is_free c.args.nodes (turned s) c.args.target k in
    sym (c.loop-color.invariant ∙ first_passing-here P c.loop-color.color (c.args.limit - (c.loop-color.color + 1)) (c.args.limit - c.loop-color.color) (omega arith)
    (sym c.is_free_at_both.ensures ∙ c.if-is_free_at_both.true))

pub returns : goal.returns
returns c =
    let s = seen c.args.nodes c.args.table.now in
    let P : ℕ → Bool = λ k. is_free c.args.nodes s c.args.source k && is_free c.args.nodes (turned s) c.args.target k in
    let at : c.loop-color.color ≡ c.args.limit = omega arith in
    sym (c.loop-color.invariant ∙ first_passing-end P c.loop-color.color (c.args.limit - c.loop-color.color) (omega arith) ∙ at)

pub is_free_at_both-requires-clause-listed : goal.is_free_at_both-requires-clause-listed
is_free_at_both-requires-clause-listed c = λ below.
    let s = seen c.args.nodes c.args.table.now in
    let color = c.loop-color.color in
    let size = length-replicate 64 true in
    let at_source = c.leave_free.ensures color ∙ ap (λ b. b && is_free c.args.nodes s c.args.source color) (get_or-replicate 64 color true false (omega arith)) in
    c.leave_free-2.ensures color ∙ ap (λ b. b && is_free c.args.nodes (turned s) c.args.target color) at_source
