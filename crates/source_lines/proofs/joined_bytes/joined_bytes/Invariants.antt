use Rattle.std.proofs.Common.{◌≡◌, ◌∷◌, map, take}
use Rattle.std.specs.List.{join_with_byte}
use Rattle.source_lines.specs.LogicalLines.{body, continuing_body}
use Rattle.source_lines.proofs.joined_bytes.joined_bytes.Given as goal

abbrev pub invariant-loop-line : goal.invariant-loop-line
invariant-loop-line l = l.bytes.items ≡ join_with_byte 32 (body l.fn.line ∷ map continuing_body (take l.line-index l.lines))
