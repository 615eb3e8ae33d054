use Rattle.std.proofs.Common.{◌≡◌, take}
use Rattle.message_lines.proofs.rows.first_rows.Given as goal

-- the rows so far
abbrev pub invariant-loop-row : goal.invariant-loop-row
invariant-loop-row l = l.rows ≡ record { layouts = take l.row l.owners.layouts; nodes = l.owners.nodes }
