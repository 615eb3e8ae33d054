-- Of private clauses.
-- What a redistribution sends.
use Rattle.std.specs.Prelude.{ℕ, ◌==◌, ◌&&◌, not, Bool, List}
use Rattle.storage.specs.Storage.{Spot}
use Rattle.machine_steps.specs.Layout.{Layout, owns_spot, least_owner_of}

-- the target owns the element after it and not before, and its least owner before is the source
abbrev pub is_moved : ℕ → (old new : List Layout) → (from to : ℕ) → Spot → Bool
is_moved nodes old new from to spot = owns_spot new to spot && (not (owns_spot old to spot) && (least_owner_of nodes old spot == from))
