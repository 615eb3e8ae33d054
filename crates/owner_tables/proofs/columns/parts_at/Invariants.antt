use Rattle.std.proofs.Common.{◌≡◌, ◌+◌, drop}
use Rattle.owner_tables.specs.Columns.{parts_at}
use Rattle.owner_tables.proofs.columns.parts_at.Given as goal

-- what the dimensions that are left add to the sum so far
abbrev pub invariant-loop-column : goal.invariant-loop-column
invariant-loop-column l = l.sum + parts_at (drop l.column-index l.columns) l.number ≡ parts_at l.columns l.fn.at
