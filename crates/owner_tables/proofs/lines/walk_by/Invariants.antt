use Rattle.std.proofs.Common.{◌≡◌, ◌+◌, ◌*◌, ◌<◌, ◌^◌}
use Rattle.owner_tables.specs.Columns.{place_of}
use Rattle.owner_tables.specs.Stretches.{AreEven}
use Rattle.owner_tables.proofs.lines.walk_by.Given as goal

-- the places so far
abbrev pub invariant-loop-done : goal.invariant-loop-done
invariant-loop-done l = record {
  at : l.at ≡ l.first + l.done * l.step;
  rank : l.rank ≡ (place_of l.places l.first).rank + l.done * l.apart;
  small : l.rank < 2 ^ 32;
  even : AreEven l.places l.first l.step l.done l.apart;
}
