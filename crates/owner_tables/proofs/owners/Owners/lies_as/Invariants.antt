use Rattle.std.proofs.Common.{◌≡◌, ◌≤◌, length, take}
use Rattle.owner_tables.proofs.owners.Owners.lies_as.Given as goal

abbrev pub invariant-loop-row : goal.invariant-loop-row
invariant-loop-row l =
    (l.row ≤ length l.self.layouts) × (length l.self.layouts ≡ length l.other.layouts) × (take l.row l.self.layouts ≡ take l.row l.other.layouts)
