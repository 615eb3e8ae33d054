use Rattle.std.proofs.Common.{◌∙◌, ap, sym}
use Rattle.round_color.specs.Coloring.{put, turned}
use Rattle.round_color.specs.Table.{seen, sided}
use Rattle.round_color.proofs.Tables.{turned-put}
use Rattle.round_color.proofs.table.put_color.Goals as goal

pub returns-then-at_target : goal.returns-then-at_target
returns-then-at_target c =
    let s = seen c.args.nodes c.args.table.now in
    ap (λ t. sided t (seen c.args.nodes c.put.new.table)) c.if-at_target.true
    ∙ ap turned c.put.ensures
    ∙ turned-put s c.args.node c.args.other c.args.color
    ∙ ap (λ t. put (sided t s) c.args.node c.args.other c.args.color) (sym c.if-at_target.true)
