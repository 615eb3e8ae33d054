use Rattle.std.proofs.Common.{◌≡◌, ◌++◌}
use Rattle.std.specs.List.{flat_map, range_with_len}
use Rattle.part_steps.specs.Parts.{part_of}
use Rattle.part_steps.specs.Views.{part_view}
use Rattle.message_lines.specs.RowLines.{source_lines}
use Rattle.message_lines.proofs.part_lines.add_sources.Given as goal

-- the lines of the sources so far
abbrev pub invariant-loop-from : goal.invariant-loop-from
invariant-loop-from l = l.text.items ≡ l.fn.text.items ++ flat_map (source_lines l.rows (part_of (part_view l.part)) l.head) (range_with_len 0 l.from)
