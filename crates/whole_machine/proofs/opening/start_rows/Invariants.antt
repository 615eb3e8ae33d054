use Rattle.std.proofs.Common.{◌≡◌, take}
use Rattle.node_program.specs.Openings.{start_rows}
use Rattle.whole_machine.proofs.opening.start_rows.Given as goal

-- the first rows
abbrev pub invariant-loop-row : goal.invariant-loop-row
invariant-loop-row l = l.rows.items ≡ take l.row (start_rows l.owners.layouts l.starts)
