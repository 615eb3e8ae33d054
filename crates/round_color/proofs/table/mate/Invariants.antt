use Rattle.std.proofs.Common.{◌≡◌, ◌-◌}
use Rattle.round_color.specs.Coloring.{is_color, first_passing, mate}
use Rattle.round_color.specs.Table.{seen, sided}
use Rattle.round_color.proofs.table.mate.Given as goal

abbrev pub invariant-loop-other : goal.invariant-loop-other
invariant-loop-other l =
    mate l.nodes (sided l.at_target (seen l.nodes l.table)) l.node l.color
    ≡ first_passing (λ other. is_color l.color (sided l.at_target (seen l.nodes l.table) l.node other)) l.other (l.nodes - l.other)
