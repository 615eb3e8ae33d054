use Rattle.std.proofs.Common.{◌≡◌, ◌+◌, drop}
use Rattle.local_address.specs.Runs.{fixed_subscript}
use Rattle.owner_tables.specs.Columns.{asked_number}
use Rattle.owner_tables.proofs.numbers.base.Given as goal

-- what the entries that are left add to the sum so far
abbrev pub invariant-loop-entry : goal.invariant-loop-entry
invariant-loop-entry l =
    l.sum + asked_number l.mapping.grid fixed_subscript (drop l.entry-index l.mapping.dims) ≡ asked_number l.mapping.grid fixed_subscript l.mapping.dims
