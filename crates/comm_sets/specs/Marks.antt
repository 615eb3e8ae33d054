-- Of private clauses.
-- No public clause cites this file.
-- Marks on pairs of nodes: that of a pair stands at 64 times its source and its target.
use Rattle.std.specs.Prelude.{◌≡◌, ℕ, ◌+◌, ◌*◌, ◌<◌, ◌==◌, ◌&&◌, ◌||◌, not, Bool, false, List, length, slice_index_or}
use Rattle.std.specs.List.{list_any}
use Rattle.storage.specs.Storage.{Spot}
use Rattle.machine_steps.specs.Layout.{Layout}
use Rattle.letters.specs.declared.pair.Pair.{Pair}
use Rattle.covering_rounds.specs.Moved.{is_moved}

abbrev pub is_marked : List Bool → (from to : ℕ) → Bool
is_marked marks from to = slice_index_or marks (from * 64 + to) false

-- of so many nodes just the pairs that pass are marked after, beside those before
pub record Marked (nodes : ℕ) (before after : List Bool) (test : (from to : ℕ) → Bool) : Type 0 where
  pub long : length after ≡ length before
  pub marks : (from to : ℕ) → from < nodes → to < nodes → is_marked after from to ≡ (test from to || is_marked before from to)

-- one of the elements is sent between the two
abbrev pub any_moved : ℕ → (old new : List Layout) → List Spot → (from to : ℕ) → Bool
any_moved nodes old new spots from to = list_any (is_moved nodes old new from to) spots

-- a pair of two nodes that is marked
abbrev pub is_marked_pair : List Bool → Pair → Bool
is_marked_pair marks pair = not (pair.from.0 == pair.to.0) && is_marked marks pair.from.0 pair.to.0
