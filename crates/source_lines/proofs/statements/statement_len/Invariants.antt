use Rattle.std.proofs.Common.{◌≡◌, ◌≤◌, ◌-◌, length, take, drop}
use Rattle.source_lines.specs.LogicalLines.{between_semicolons, with_part}
use Rattle.source_lines.proofs.statements.statement_len.Given as goal

abbrev pub invariant-loop-done : goal.invariant-loop-done
invariant-loop-done l = record {
  within : l.done ≤ length l.bytes;
  parts : between_semicolons l.bytes ≡ with_part (take l.done l.bytes) (between_semicolons (drop l.done l.bytes));
}

abbrev pub decreases-loop-done : goal.decreases-loop-done
decreases-loop-done l = length l.bytes - l.done
