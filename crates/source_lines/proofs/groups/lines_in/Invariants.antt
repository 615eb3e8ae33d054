use Rattle.std.proofs.Common.{◌≡◌, ◌-◌, ◌≤◌, ◌++◌, drop, length}
use Rattle.std.specs.List.{flat_map}
use Rattle.source_lines.specs.LogicalLines.{groups, lines_of_group}
use Rattle.source_lines.proofs.groups.lines_in.Given as goal

abbrev pub invariant-loop-line : goal.invariant-loop-line
invariant-loop-line l = record {
  within : l.done ≤ length l.lines;
  whole : flat_map lines_of_group (groups l.lines) ≡ l.found.items ++ flat_map lines_of_group (groups (drop l.done l.lines));
}

abbrev pub decreases-loop-line : goal.decreases-loop-line
decreases-loop-line l = length l.lines - l.done
