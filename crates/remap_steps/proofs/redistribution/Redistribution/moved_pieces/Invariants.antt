use Rattle.std.proofs.Common.{◌≡◌, map}
use Rattle.std.specs.List.{range_with_len}
use Rattle.remap_steps.specs.Redistributions.{moved_row}
use Rattle.remap_steps.proofs.redistribution.Redistribution.moved_pieces.Given as goal

abbrev pub invariant-loop-row : goal.invariant-loop-row
invariant-loop-row l = l.rows.items ≡ map (moved_row l.fn.self l.pieces l.received) (range_with_len 0 l.row)
