use Rattle.std.proofs.Common.{◌≡◌, ◌-◌}
use Rattle.round_color.specs.Coloring.{is_free, first_passing, free_at}
use Rattle.round_color.specs.Table.{seen, sided}
use Rattle.round_color.proofs.free_colors.free_at.Given as goal

abbrev pub invariant-loop-color : goal.invariant-loop-color
invariant-loop-color l =
    free_at l.nodes l.limit (sided l.at_target (seen l.nodes l.table)) l.node
    ≡ first_passing (is_free l.nodes (sided l.at_target (seen l.nodes l.table)) l.node) l.color (l.limit - l.color)
