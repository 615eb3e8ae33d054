use Rattle.std.proofs.Common.{◌≡◌, drop}
use Rattle.message_lines.specs.Grown.{grown}
use Rattle.message_lines.proofs.rows.grow_to_all.Given as goal

-- with those that are left they are as from the start
abbrev pub invariant-loop-row : goal.invariant-loop-row
invariant-loop-row l =
    (grown l.copy.layout l.rows.layouts (drop l.row-index l.all) ≡ grown l.copy.layout l.fn.rows.layouts l.all) × (l.rows.nodes ≡ l.fn.rows.nodes)
