use Rattle.std.proofs.Common.{Some, ◌∙◌, sym, ap}
use Rattle.round_color.specs.Coloring.{turned, put, exchange, free_at}
use Rattle.round_color.specs.Table.{seen}
use Rattle.round_color.proofs.Tables.{color_edge-by_exchange}
use Rattle.round_color.proofs.coloring.color_edge.Goals as goal

pub returns-else-shared-limit : goal.returns-else-shared-limit
returns-else-shared-limit c =
    let n = c.args.nodes in
    let f = seen n c.args.table.now in
    let x = c.args.edge.now.from.0 in
    let y = c.args.edge.now.to.0 in
    let b = free_at n c.args.limit (turned f) y in
    c.put_color-else-shared-limit.ensures
    ∙ ap (λ g. put (turned g) x y (Some c.free_at-one.result)) (c.exchange.ensures
    ∙ ap (λ k. exchange n c.args.steps (turned f) y c.free_at-one.result k) c.free_at-other.ensures)
    ∙ ap (λ a. put (turned (exchange n c.args.steps (turned f) y a b)) x y (Some a)) c.free_at-one.ensures
    ∙ sym (color_edge-by_exchange n c.args.steps c.args.limit f x y c.free_at_both-shared.result c.free_at_both-shared.ensures c.if-shared-limit.false)
