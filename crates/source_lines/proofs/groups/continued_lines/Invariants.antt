use Rattle.std.proofs.Common.{◌≡◌, ◌+◌, drop}
use Rattle.std.specs.List.{prefix_len}
use Rattle.source_lines.specs.Breaches.{is_continued}
use Rattle.source_lines.proofs.groups.continued_lines.Given as goal

abbrev pub invariant-loop-i : goal.invariant-loop-i
invariant-loop-i l = prefix_len is_continued l.lines ≡ l.i + prefix_len is_continued (drop l.i l.lines)
