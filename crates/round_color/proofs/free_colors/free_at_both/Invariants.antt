use Rattle.std.proofs.Common.{◌≡◌, ◌-◌, ◌&&◌}
use Rattle.round_color.specs.Coloring.{is_free, first_passing, free_at_both, turned}
use Rattle.round_color.specs.Table.{seen}
use Rattle.round_color.proofs.free_colors.free_at_both.Given as goal

abbrev pub invariant-loop-color : goal.invariant-loop-color
invariant-loop-color l =
    free_at_both l.nodes l.limit (seen l.nodes l.table) l.source l.target
    ≡ first_passing (λ k. is_free l.nodes (seen l.nodes l.table) l.source k && is_free l.nodes (turned (seen l.nodes l.table)) l.target k) l.color (l.limit - l.color)
