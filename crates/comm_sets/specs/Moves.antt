-- Of private clauses.
-- What a redistribution sends, at one end.
use Rattle.std.specs.Prelude.{ℕ, Bool, List}
use Rattle.storage.specs.Storage.{Spot}
use Rattle.machine_steps.specs.Layout.{Layout, owned_in}
use Rattle.covering_rounds.specs.Moved.{is_moved}
use Rattle.comm_sets.specs.declared.remapping.End.{End}
use Rattle.comm_sets.specs.declared.remapping.End.TheVariants.{Source, Target}

-- the same between one end and the node at the other end
abbrev pub moves : ℕ → (old new : List Layout) → End → (other : ℕ) → Spot → Bool
moves nodes old new (Source from) to = is_moved nodes old new from to
moves nodes old new (Target to) from = is_moved nodes old new from to

-- the node at the end owns an element of a row: before as a source, and after as a target
abbrev pub has_at : (old new : List Layout) → End → ℕ → ℕ → Bool
has_at old new (Source from) row at = owned_in old row from at
has_at old new (Target to) row at = owned_in new row to at

-- the node at the end
abbrev pub node_of : End → ℕ
node_of (Source from) = from
node_of (Target to) = to
