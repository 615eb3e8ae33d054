use Rattle.std.proofs.Common.{◌≡◌, ◌&&◌, ℕ, false, get_or}
use Rattle.round_color.specs.Coloring.{is_free}
use Rattle.round_color.specs.Table.{seen, sided}
use Rattle.round_color.proofs.free_colors.leave_free.Given as goal

abbrev pub invariant-loop-other : goal.invariant-loop-other
invariant-loop-other l =
    (color : ℕ) → get_or l.free color false ≡ (get_or l.fn.free color false && is_free l.other (sided l.at_target (seen l.nodes l.table)) l.node color)
