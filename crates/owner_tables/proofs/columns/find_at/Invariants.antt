use Rattle.std.proofs.Common.{◌≡◌, ◌+◌, drop}
use Rattle.owner_tables.specs.Columns.{address_at, parts_at}
use Rattle.owner_tables.proofs.columns.find_at.Given as goal

-- what the dimensions that are left add to the sums so far
abbrev pub invariant-loop-column : goal.invariant-loop-column
invariant-loop-column l =
    (l.parts + parts_at (drop l.column-index l.columns) l.number ≡ parts_at l.columns l.fn.at)
    × (l.address + address_at l.fn.node (drop l.column-index l.columns) l.number ≡ address_at l.fn.node l.columns l.fn.at)
