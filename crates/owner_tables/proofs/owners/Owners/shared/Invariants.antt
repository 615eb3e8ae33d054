use Rattle.std.proofs.Common.{◌≡◌, take}
use Rattle.owner_tables.proofs.owners.Owners.shared.Given as goal

abbrev pub invariant-loop-table : goal.invariant-loop-table
invariant-loop-table l = l.tables.items ≡ take l.table-index l.self-inside.tables.items
