use Rattle.std.proofs.Common.{◌≡◌, ◌+◌, ◌≤◌, ◌++◌, length, map, vec_len}
use Rattle.std.specs.List.{enumerate_from}
use Rattle.source_lines.specs.PhysicalLines.{physical_lines, physical_line, numbered_lines}
use Rattle.source_lines.proofs.physical_lines.numbered_lines.Given as goal

-- the lines so far, and those of the rest after them
abbrev pub invariant-loop-line : goal.invariant-loop-line
invariant-loop-line l = record {
  short : vec_len l.lines + length l.rest ≤ length l.text;
  whole : numbered_lines l.text ≡ l.lines.items ++ map (λ x. physical_line x.0 x.1) (enumerate_from (vec_len l.lines + 1) (physical_lines l.rest));
}

abbrev pub decreases-loop-line : goal.decreases-loop-line
decreases-loop-line l = length l.rest
