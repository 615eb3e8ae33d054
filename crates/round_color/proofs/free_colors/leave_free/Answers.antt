use Rattle.std.proofs.Common.{◌∙◌, ◌&&◌, false, not, get_or, ap}
use Rattle.round_color.specs.Coloring.{is_color}
use Rattle.round_color.specs.Table.{seen, sided}
use Rattle.round_color.proofs.FreeLists.{free-more}
use Rattle.round_color.proofs.free_colors.leave_free.Goals as goal

pub loop-other-preserved : goal.loop-other-preserved
loop-other-preserved c = λ color.
    let before = get_or c.loop-other.free color false in
    free-more (sided c.args.at_target (seen c.args.nodes c.args.table.now)) c.args.node c.loop-other.other color (get_or c.args.free.now color false) before
    (get_or c.take_color.new.free color false) (c.loop-other.invariant color)
    (c.take_color.ensures color ∙ ap (λ v. before && not (is_color color v)) c.color_beside.ensures)
