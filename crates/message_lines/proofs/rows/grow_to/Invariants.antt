use Rattle.std.proofs.Common.{◌≡◌, ◌+◌, ◌-◌, length}
use Rattle.message_lines.specs.Grown.{up_to}
use Rattle.message_lines.proofs.rows.grow_to.Given as goal

-- with the copies that are still wanted they are as many as from the start
abbrev pub invariant-loop-rows : goal.invariant-loop-rows
invariant-loop-rows l =
    (up_to l.copy.layout l.rows.layouts l.row ≡ up_to l.copy.layout l.fn.rows.layouts l.row) × (l.rows.nodes ≡ l.fn.rows.nodes)

abbrev pub decreases-loop-rows : goal.decreases-loop-rows
decreases-loop-rows l = l.row + 1 - length l.rows.layouts
