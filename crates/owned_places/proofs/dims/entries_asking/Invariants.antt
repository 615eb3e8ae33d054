use Rattle.std.proofs.Common.{◌≡◌, ◌+◌, ◌≤◌, drop}
use Rattle.owned_places.specs.Dims.{entries_asking}
use Rattle.owned_places.proofs.dims.entries_asking.Given as goal

-- those so far and those that are left
abbrev pub invariant-loop-entry : goal.invariant-loop-entry
invariant-loop-entry l =
    (l.count ≤ l.entry-index) × (l.count + entries_asking l.k (drop l.entry-index l.mapping.dims) ≡ entries_asking l.k l.mapping.dims)
