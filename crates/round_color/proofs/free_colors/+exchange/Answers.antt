use Rattle.std.proofs.Common.{◌≡◌, ◌-◌, suc, Some, sym, ◌∙◌, ap, arith}
use Rattle.round_color.specs.Coloring.{Colors, turned, put, exchange}
use Rattle.round_color.specs.Table.{seen, sided}
use Rattle.round_color.proofs.Tables.{exchange-end, exchange-next, other-side, same-side}
use Rattle.round_color.proofs.free_colors.+exchange.Goals as goal

pub returns-then-next-nodes : goal.returns-then-next-nodes
returns-then-next-nodes t c =
    let n = c.args.nodes in
    let next = c.mate-next.result in
    let f = sided c.args.at_target (seen n c.args.table.now) in
    let rest : Colors → Colors = λ g. exchange n (c.args.steps - 1) g next c.args.other c.args.one in
    let more : c.args.steps ≡ suc (c.args.steps - 1) = omega (arith, c.if-steps-eq0.false) in
    c.put_color-then-next-nodes.ensures
    ∙ ap (λ g. put g c.args.node next (Some c.args.other))
    (sym (same-side c.args.at_target (seen n c.exchange.new.table))
    ∙ ap turned (c.exchange.ensures ∙ ap rest (other-side c.args.at_target (seen n c.put_color.new.table) ∙ ap turned c.put_color.ensures)))
    ∙ sym (exchange-next n c.args.steps (c.args.steps - 1) f c.args.node c.args.one c.args.other next more c.mate-next.ensures c.if-next-nodes.true)

pub returns-else-next-nodes : goal.returns-else-next-nodes
returns-else-next-nodes t c =
    let more : c.args.steps ≡ suc (c.args.steps - 1) = omega (arith, c.if-steps-eq0.false) in
    sym (exchange-end c.args.nodes c.args.steps (c.args.steps - 1) (sided c.args.at_target (seen c.args.nodes c.args.table.now)) c.args.node c.args.one c.args.other
    c.mate-next.result more c.mate-next.ensures c.if-next-nodes.false)
