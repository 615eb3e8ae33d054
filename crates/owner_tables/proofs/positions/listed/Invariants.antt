use Rattle.std.proofs.Common.{◌≡◌, map}
use Rattle.std.specs.List.{range_with_len}
use Rattle.gap_table.specs.GapTable.{nth_of}
use Rattle.owner_tables.proofs.positions.listed.Given as goal

-- the places so far
abbrev pub invariant-loop-number : goal.invariant-loop-number
invariant-loop-number l = l.places.items ≡ map (nth_of l.table) (range_with_len 0 l.number)
