use Rattle.std.proofs.Common.{◌≡◌, take}
use Rattle.tuple_values.specs.Spots.{reads_of}
use Rattle.tuple_values.specs.Strips.{spots_at}
use Rattle.tuple_values.proofs.strip_lines.lines_by.Given as goal

-- the lines of the elements so far
abbrev pub invariant-loop-index : goal.invariant-loop-index
invariant-loop-index l = record {
  first : reads_of (take l.index l.first) ≡ spots_at l.lines.items 0;
  second : reads_of (take l.index l.second) ≡ spots_at l.lines.items 1;
  last : reads_of (take l.index l.last) ≡ spots_at l.lines.items l.place;
}
