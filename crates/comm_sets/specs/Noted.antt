-- Of a promise.
-- Lists of elements, one for each node.
use Rattle.std.specs.Prelude.{◌≡◌, ℕ, ◌<◌, ◌||◌, Bool, List, [], length, slice_index_or}
use Rattle.storage.specs.Storage.{Spot}
use Rattle.message_elements.specs.Ascending.{Ascends}
use Rattle.message_elements.specs.Elements.{SameAmong, is_among}

abbrev pub Lists : Type 0
Lists = List (List Spot)

-- of each node just the elements that pass its test are among those after, beside those before. How often and where they stand is left open
pub record Noted (before after : Lists) (test : ℕ → Spot → Bool) : Type 0 where
  pub nodes : length after ≡ length before
  pub among : (node : ℕ) → node < length before → (spot : Spot)
      → is_among (slice_index_or after node []) spot ≡ (test node spot || is_among (slice_index_or before node []) spot)

-- the same elements of each node; of so many nodes each once and in order
pub record ArrangedTo (done : ℕ) (before after : Lists) : Type 0 where
  pub nodes : length after ≡ length before
  pub ascends : (node : ℕ) → node < done → Ascends (slice_index_or after node [])
  pub among : (node : ℕ) → SameAmong (slice_index_or before node []) (slice_index_or after node [])

-- of all nodes
abbrev pub Arranged : (before after : Lists) → Type 0
Arranged before after = ArrangedTo (length before) before after
