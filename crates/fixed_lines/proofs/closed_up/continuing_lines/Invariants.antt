use Rattle.std.proofs.Common.{◌≡◌, ◌+◌, drop}
use Rattle.std.specs.List.{prefix_len}
use Rattle.fixed_lines.specs.FreeText.{continues_directive}
use Rattle.fixed_lines.proofs.closed_up.continuing_lines.Given as goal

abbrev pub invariant-loop-i : goal.invariant-loop-i
invariant-loop-i l = prefix_len continues_directive l.lines ≡ l.i + prefix_len continues_directive (drop l.i l.lines)
