use Rattle.std.proofs.Common.{◌≡◌, ◌-◌, ◌≤◌, ◌++◌, drop, length}
use Rattle.fixed_lines.specs.FreeText.{closed_up}
use Rattle.fixed_lines.proofs.closed_up.closed_up.Given as goal

abbrev pub invariant-loop-done : goal.invariant-loop-done
invariant-loop-done l = record {
  within : l.done ≤ length l.lines;
  whole : closed_up l.lines ≡ l.closed.items ++ closed_up (drop l.done l.lines);
}

abbrev pub decreases-loop-done : goal.decreases-loop-done
decreases-loop-done l = length l.lines - l.done
